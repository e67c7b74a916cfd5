use Rattle.std.proofs.Common.{ap, length, arith}
use Rattle.proof_plans.proofs.Walked.{holds_missing, holds_all, missing_told}
use Rattle.proof_plans.proofs.landmarks.+holds_from.Goals as goal

pub returns-then-is_one_missing-clause-holds : goal.returns-then-is_one_missing-clause-holds
returns-then-is_one_missing-clause-holds t c =
    holds_missing c.args.set.now c.args.form.now c.args.fresh c.args.values.now.items
    (missing_told c.args.set.now c.as_slice.result.now c.args.values.now.items c.as_slice-2.result.now c.args.form.now.premises
    c.as_slice.ensures.value c.as_slice-2.ensures c.if-is_one_missing.ensures)

pub returns-clause-holds : goal.returns-clause-holds
returns-clause-holds t c =
    holds_all c.args.set.now c.args.form.now c.args.fresh c.args.values.now.items
    (let long = ap length c.as_slice-count.ensures.value in omega (arith, long, c.if-count-form.false))
    c.loop-element.element c.loop-element-test.false c.loop-element.invariant.holds
