use Rattle.std.proofs.Common.{◌≡◌, Err, rules}
use Rattle.larus_cli.proofs.Saying.{task_both}
use Rattle.larus_cli.proofs.judge.judge.Goals as goal

pub returns-in_err-task-clause-decides : goal.returns-in_err-task-clause-decides
returns-in_err-task-clause-decides g c words are =
    let same : c.from_residual.result ≡ Err c.in_err-task.field-0.0 = search rules in
    rw same (c.in_err-task.ensures.halts words (task_both words c.args.problem.now c.args.format c.args.name.now (c.args.wanted, are)))

pub returns-clause-decides : goal.returns-clause-decides
returns-clause-decides g c words are =
    c.judge_second.ensures.decides words (g.F.Files.known c.args.files.now) c.args.problem.now c.in_ok-task.ensures.grows are
    c.in_ok-task.ensures.reads
