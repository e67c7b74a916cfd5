use Rattle.std.proofs.Common.{◌≡◌, Err, rules}
use Rattle.larus_cli.proofs.Saying.{task_prove}
use Rattle.larus_cli.proofs.decide.prove.Goals as goal

pub returns-in_err-task-clause-decides : goal.returns-in_err-task-clause-decides
returns-in_err-task-clause-decides g c =
    let same : c.from_residual.result ≡ Err c.in_err-task.field-0.0 = search rules in
    rw same (c.in_err-task.ensures.halts c.args.words.now (task_prove c.args.words.now c.prove_name-problem.result.now c.args.most
    c.prove_name-problem.ensures.asks))

pub returns-clause-decides : goal.returns-clause-decides
returns-clause-decides g c = c.prove_task.ensures c.args.words.now (g.F.Files.known c.args.files.now) (g.F.Files.known c.read_task.new.files)
    c.prove_name-problem.result.now c.prove_name-problem.ensures.asks c.in_ok-task.ensures.reads
