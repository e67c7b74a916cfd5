use Rattle.std.proofs.Common.{◌≡◌, Err, rules}
use Rattle.larus_cli.proofs.Saying.{task_refute, problem_task}
use Rattle.larus_cli.proofs.refute.refute.Goals as goal

pub returns-in_err-formulas-clause-decides : goal.returns-in_err-formulas-clause-decides
returns-in_err-formulas-clause-decides g c words asks =
    let same : c.from_residual.result ≡ Err c.in_err-formulas.field-0.0 = search rules in
    rw same (c.in_err-formulas.ensures.halts words
    (problem_task words c.args.name.now (task_refute words c.args.name.now c.args.size asks)))

pub returns-in_err-task-clause-decides : goal.returns-in_err-task-clause-decides
returns-in_err-task-clause-decides g c words asks =
    let same : c.from_residual-in_err-task.result ≡ Err c.in_err-task.field-0.0 = search rules in
    rw same (c.in_err-task.ensures.halts words (g.F.Files.known c.args.files.now) (g.F.Files.known c.read_problem.new.files) c.args.name.now
    (task_refute words c.args.name.now c.args.size asks) c.in_ok-formulas.ensures.reads)

pub returns-clause-decides : goal.returns-clause-decides
returns-clause-decides g c words asks =
    c.refute_task.ensures words (g.F.Files.known c.args.files.now) (g.F.Files.known c.read_problem.new.files) c.args.name.now asks
    c.in_ok-formulas.ensures.reads
