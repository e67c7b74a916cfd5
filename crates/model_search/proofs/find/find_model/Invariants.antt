use Rattle.model_search.specs.LeastModels.{HasNone}
use Rattle.model_search.proofs.find.find_model.Given as goal

-- no structure of an earlier size is a countermodel
abbrev pub invariant-loop-before : goal.invariant-loop-before
invariant-loop-before l = HasNone l.task.tables.constants l.problem l.before
