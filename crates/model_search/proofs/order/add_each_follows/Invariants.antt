use Rattle.model_search.specs.Orders.{Follows}
use Rattle.model_search.specs.Sheets.{GoesIf}
use Rattle.model_search.proofs.order.add_each_follows.Given as goal

abbrev pub invariant-loop-element : goal.invariant-loop-element
invariant-loop-element l = GoesIf (Follows l.constant) l.initial.sheet l.sheet
