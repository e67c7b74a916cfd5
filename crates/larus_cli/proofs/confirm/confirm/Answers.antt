use Rattle.std.proofs.Common.{◌≡◌, Err, rules}
use Rattle.std.proofs.lemmas.Result.{err_from_is_err_and}
use Rattle.larus_cli.specs.Read.{ReadsTask, ReadsBytes}
use Rattle.larus_cli.proofs.Saying.{task_confirm, second_confirm, problem_task, holds_before}
use Rattle.larus_cli.proofs.confirm.confirm.Goals as goal

pub returns-in_err-formulas-clause-decides : goal.returns-in_err-formulas-clause-decides
returns-in_err-formulas-clause-decides g c words asks =
    let same : c.from_residual.result ≡ Err c.in_err-formulas.field-0.0 = search rules in
    rw same (c.in_err-formulas.ensures.halts words
    (problem_task words c.args.problem.now (task_confirm words c.args.problem.now c.args.name.now asks)))

pub returns-in_err-task-clause-decides : goal.returns-in_err-task-clause-decides
returns-in_err-task-clause-decides g c words asks =
    let same : c.from_residual-in_err-task.result ≡ Err c.in_err-task.field-0.0 = search rules in
    rw same (c.in_err-task.ensures.halts words (g.F.Files.known c.args.files.now) (g.F.Files.known c.read_problem.new.files) c.args.problem.now
    (task_confirm words c.args.problem.now c.args.name.now asks) c.in_ok-formulas.ensures.reads)

pub returns-in_err-bytes-clause-decides : goal.returns-in_err-bytes-clause-decides
returns-in_err-bytes-clause-decides g c words asks =
    let p = err_from_is_err_and c.from_residual-in_err-bytes.result c.from_residual-in_err-bytes.ensures.1 in
    let old = g.F.Files.known c.args.files.now in
    let read : ReadsTask old c.args.problem.now c.in_ok-task.task =
    record { formulas = c.in_ok-formulas.formulas; reads = c.in_ok-formulas.ensures.reads; has = c.in_ok-task.ensures.has } in
    rw (p.1, p.2) (c.in_err-bytes.ensures.halts words old c.args.problem.now c.in_ok-task.task c.in_ok-formulas.ensures.grows
    (second_confirm words c.args.problem.now c.args.name.now asks) read)

pub returns-in_err-model-clause-decides : goal.returns-in_err-model-clause-decides
returns-in_err-model-clause-decides g c words asks =
    let p = err_from_is_err_and c.from_residual-in_err-model.result c.from_residual-in_err-model.ensures.1 in
    let old = g.F.Files.known c.args.files.now in
    let read : ReadsTask old c.args.problem.now c.in_ok-task.task =
    record { formulas = c.in_ok-formulas.formulas; reads = c.in_ok-formulas.ensures.reads; has = c.in_ok-task.ensures.has } in
    let holds = holds_before old (g.F.Files.known c.read_problem.new.files) c.args.name.now c.in_ok-bytes.bytes c.in_ok-formulas.ensures.grows
    c.in_ok-bytes.ensures.holds in
    let bytes : ReadsBytes old c.args.problem.now c.args.name.now c.in_ok-task.task c.in_ok-bytes.bytes = record { reads = read; holds = holds } in
    rw (p.1, p.2) ((rw c.as_slice.ensures at c.in_err-model.ensures.halts) words old (g.F.Files.known c.read_second.new.files) c.args.problem.now
    c.in_ok-task.task asks bytes)

pub returns-clause-decides : goal.returns-clause-decides
returns-clause-decides g c words asks =
    let old = g.F.Files.known c.args.files.now in
    let holds = holds_before old (g.F.Files.known c.read_problem.new.files) c.args.name.now c.in_ok-bytes.bytes c.in_ok-formulas.ensures.grows
    c.in_ok-bytes.ensures.holds in
    c.judge_structure.ensures words old (g.F.Files.known c.read_second.new.files) c.args.problem.now c.args.name.now asks (record {
      bytes = c.in_ok-bytes.bytes;
      reads = c.in_ok-formulas.ensures.reads;
      has = c.in_ok-task.ensures.has;
      holds = holds;
      spells = rw c.as_slice.ensures at c.in_ok-model.ensures.spells;
    })
