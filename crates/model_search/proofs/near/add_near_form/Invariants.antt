use Rattle.model_search.specs.Nearness.{GoesNearBy}
use Rattle.model_search.proofs.near.add_near_form.Given as goal

abbrev pub invariant-loop-number : goal.invariant-loop-number
invariant-loop-number l = GoesNearBy l.size l.form l.near l.more l.initial.sheet l.sheet
