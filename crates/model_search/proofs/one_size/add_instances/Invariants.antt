use Rattle.model_search.specs.Rules.{SuitsForm}
use Rattle.model_search.specs.Sheets.{GoesIf}
use Rattle.model_search.proofs.one_size.add_instances.Given as goal

abbrev pub invariant-loop-instance : goal.invariant-loop-instance
invariant-loop-instance l = GoesIf (SuitsForm l.size l.form) l.fn.sheet l.sheet
