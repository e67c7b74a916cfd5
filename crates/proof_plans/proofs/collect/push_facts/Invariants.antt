use Rattle.proof_plans.specs.Choices.{HasAll, NumberedBelow}
use Rattle.proof_plans.specs.Ways.{IsByNumber}
use Rattle.proof_plans.proofs.collect.push_facts.Given as goal

-- the ways by the first facts are there
abbrev pub invariant-loop-number : goal.invariant-loop-number
invariant-loop-number l = HasAll l.fn.choices.items l.choices.items (NumberedBelow l.number (IsByNumber l.atom l.facts l.kind))
