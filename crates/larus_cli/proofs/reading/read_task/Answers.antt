use Rattle.std.proofs.Common.{◌≡◌, Err, rules}
use Rattle.larus_cli.proofs.Saying.{problem_task, task_read}
use Rattle.larus_cli.proofs.reading.read_task.Goals as goal

pub returns-in_err-problem-clause-halts : goal.returns-in_err-problem-clause-halts
returns-in_err-problem-clause-halts g c words names =
    let same : c.from_residual.result ≡ Err c.in_err-problem.field-0.0 = search rules in
    rw same (c.in_err-problem.ensures.halts words (problem_task words c.args.name.now names))

pub returns-clause-reads : goal.returns-clause-reads
returns-clause-reads g c = task_read (g.F.Files.known c.args.files.now) c.args.name.now c.in_ok-problem.problem c.build_task.result
    c.in_ok-problem.ensures.reads c.build_task.ensures.has

pub returns-clause-halts : goal.returns-clause-halts
returns-clause-halts g c words names =
    c.build_task.ensures.halts words (g.F.Files.known c.args.files.now) (g.F.Files.known c.read_problem.new.files) c.args.name.now names
    c.in_ok-problem.ensures.reads
