use Rattle.std.proofs.Common.{length, arith, ap, ◌∙◌}
use Rattle.isar_text.specs.Heads.{isar_head}
use Rattle.isar_text.proofs.Fronts.{IsFront, front_is, common_short}
use Rattle.isar_text.proofs.reader.skip_head.Goals as goal

-- what is in common whole is at the front of the bytes
at_front : (c : goal.After-drop-head-inside-2) → IsFront (isar_head c.args.task.now) c.args.bytes.now c.common-shared.result
at_front c =
    front_is c.as_slice.result.now (isar_head c.args.task.now) c.args.bytes.now c.common-shared.result
    (c.as_slice.ensures ∙ c.in_ok-head.ensures) c.common-shared.ensures
    (let same = ap length c.as_slice.ensures in omega (arith, same, c.len.ensures, c.if-shared-len.false))

pub overflow_cast-result : goal.overflow_cast-result
overflow_cast-result c =
    let short = common_short c.as_slice.result.now c.args.bytes.now c.common-shared.result c.common-shared.ensures in
    omega (arith, short, c.requires)

pub returns-clause-head : goal.returns-clause-head
returns-clause-head c = (at_front c).whole

pub returns-clause-within : goal.returns-clause-within
returns-clause-within c = (at_front c).within

pub returns-clause-front : goal.returns-clause-front
returns-clause-front c = (at_front c).rest
