use Rattle.proof_plans.specs.Choices.{HasAll, NumberedBelow}
use Rattle.proof_plans.specs.Ways.{IsByOld}
use Rattle.proof_plans.proofs.collect.push_steps.Given as goal

-- the ways by the first steps are there
abbrev pub invariant-loop-number : goal.invariant-loop-number
invariant-loop-number l = HasAll l.fn.choices.items l.choices.items (NumberedBelow l.number (IsByOld l.atom l.forms l.steps))
