use Rattle.std.proofs.Common.{take}
use Rattle.model_search.specs.Orders.{AreFormedRules}
use Rattle.model_search.proofs.formed.are_formed.Given as goal

abbrev pub invariant-loop-rule : goal.invariant-loop-rule
invariant-loop-rule l = AreFormedRules l.constants (take l.rule-index l.rules)
