use Rattle.model_search.specs.Rules.{SuitsRules}
use Rattle.model_search.specs.Sheets.{GoesIf}
use Rattle.model_search.proofs.one_size.add_firsts.Given as goal

abbrev pub invariant-loop-rule : goal.invariant-loop-rule
invariant-loop-rule l = GoesIf (SuitsRules l.size l.rules) l.fn.sheet l.sheet
