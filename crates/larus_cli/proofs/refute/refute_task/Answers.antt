use Rattle.std.specs.Prelude.{Some, None}
use Rattle.std.proofs.Common.{subst}
use Rattle.model_search.specs.LeastModels.{IsLeastCountermodel}
use Rattle.larus_cli.specs.Done.{refuted}
use Rattle.larus_cli.specs.Answers.{done, none_sized}
use Rattle.larus_cli.proofs.refute.refute_task.Goals as goal

pub returns-in_ok-write_model-in-Some : goal.returns-in_ok-write_model-in-Some
returns-in_ok-write_model-in-Some c words files later name asks reads =
    let least = subst (IsLeastCountermodel c.args.task.now.tables.constants c.args.problem.now c.args.size) c.in-Some.is c.in_ok-model.ensures in
    done _ (refuted name _ c.args.size c.args.problem.now c.args.task.now c.in-Some.model asks reads c.requires.has least
    c.in_ok-write_model-in-Some.ensures.text c.in_ok-write_model-in-Some.ensures.reads_back)

pub returns-in-None : goal.returns-in-None
returns-in-None c words files later name asks reads =
    let none = subst (IsLeastCountermodel c.args.task.now.tables.constants c.args.problem.now c.args.size) c.in-None.is c.in_ok-model.ensures in
    none_sized name c.args.size c.args.problem.now c.args.task.now asks reads c.requires.has none
