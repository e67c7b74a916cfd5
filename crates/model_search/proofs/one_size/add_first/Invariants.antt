use Rattle.model_search.specs.Rules.{SuitsForm}
use Rattle.model_search.specs.Sheets.{GoesIf}
use Rattle.model_search.proofs.one_size.add_first.Given as goal

abbrev pub invariant-loop-number : goal.invariant-loop-number
invariant-loop-number l = GoesIf (SuitsForm l.size l.rule.form.now) l.fn.sheet l.sheet
