use Rattle.model_search.specs.Nearness.{GoesNear}
use Rattle.model_search.proofs.near.add_near_rules.Given as goal

abbrev pub invariant-loop-rule : goal.invariant-loop-rule
invariant-loop-rule l = GoesNear l.size l.rules l.near l.more l.initial.sheet l.sheet
