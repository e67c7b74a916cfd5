use Rattle.model_search.specs.Orders.{IsFair}
use Rattle.model_search.proofs.one_size.find_of_size.Given as goal

abbrev pub invariant-loop : goal.invariant-loop
invariant-loop l = IsFair l.size l.rules l.sheet
