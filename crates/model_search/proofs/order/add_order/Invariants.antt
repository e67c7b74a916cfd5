use Rattle.model_search.specs.Orders.{IsOrdered}
use Rattle.model_search.specs.Sheets.{GoesIf}
use Rattle.model_search.proofs.order.add_order.Given as goal

abbrev pub invariant-loop-constant : goal.invariant-loop-constant
invariant-loop-constant l = GoesIf (IsOrdered l.count) l.initial.sheet l.sheet
