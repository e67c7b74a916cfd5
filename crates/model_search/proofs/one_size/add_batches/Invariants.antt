use Rattle.model_search.specs.Rules.{SuitsRules}
use Rattle.model_search.specs.Sheets.{GoesIf}
use Rattle.model_search.proofs.one_size.add_batches.Given as goal

abbrev pub invariant-loop-batch : goal.invariant-loop-batch
invariant-loop-batch l = GoesIf (SuitsRules l.size l.rules) l.fn.sheet l.sheet
