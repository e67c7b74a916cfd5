use Rattle.std.proofs.Common.{◌+◌, refl, inl, inr, arith}
use Rattle.isar_text.proofs.Fronts.{common_next, common_differ, common_past}
use Rattle.isar_text.proofs.reader.common.Goals as goal

pub loop-count-init : goal.loop-count-init
loop-count-init c = omega arith

pub loop-count-preserved : goal.loop-count-preserved
loop-count-preserved c =
    let next = common_next c.args.first.now c.args.second.now c.loop-count.count (c.loop-count.count + 1) refl c.loop-count-test.true
    c.if-count-second.true c.if-first-count.true in
    omega (arith, next, c.loop-count.invariant)

pub returns-else-first-count : goal.returns-else-first-count
returns-else-first-count c =
    let none = common_differ c.args.first.now c.args.second.now c.loop-count.count c.loop-count-test.true c.if-count-second.true
    c.if-first-count.false in
    omega (arith, none, c.loop-count.invariant)

pub returns-else-count-second : goal.returns-else-count-second
returns-else-count-second c =
    let none = common_past c.args.first.now c.args.second.now c.loop-count.count (inr c.if-count-second.false) in
    omega (arith, none, c.loop-count.invariant)

pub returns-after-loop-count : goal.returns-after-loop-count
returns-after-loop-count c =
    let none = common_past c.args.first.now c.args.second.now c.loop-count.count (inl c.loop-count-test.false) in
    omega (arith, none, c.loop-count.invariant)
