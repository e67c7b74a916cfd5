use Rattle.std.proofs.Common.{refl}
use Rattle.larus_cli.specs.Done.{confirmed}
use Rattle.larus_cli.specs.Answers.{done, model_fails}
use Rattle.larus_cli.proofs.Saying.{confirm_told}
use Rattle.larus_cli.proofs.confirm.judge_structure.Goals as goal

pub returns-in-Ok : goal.returns-in-Ok
returns-in-Ok c words files later name second asks reads =
    rw c.size.ensures.value (done _ (confirmed name second _ c.args.problem.now c.args.task.now c.args.model.now asks reads c.in-Ok.ensures.exact.ok refl))

pub returns-in_default : goal.returns-in_default
returns-in_default c words files later name second asks reads =
    confirm_told words files later name second c.args.problem.now c.args.task.now c.args.model.now c.in-Err.refusal asks reads
    c.in_default.not-Memory c.in-Err.ensures.exact.err
