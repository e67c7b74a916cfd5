use Rattle.model_search.specs.Nearness.{GoesNear}
use Rattle.model_search.proofs.near.add_near.Given as goal

abbrev pub invariant-loop-greatest : goal.invariant-loop-greatest
invariant-loop-greatest l = GoesNear l.size l.rules l.count l.near l.initial.sheet l.sheet
