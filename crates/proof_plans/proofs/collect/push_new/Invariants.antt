use Rattle.proof_plans.specs.Choices.{HasAll, NumberedBelow}
use Rattle.proof_plans.specs.Ways.{IsSplitByNew}
use Rattle.proof_plans.proofs.collect.push_new.Given as goal

-- the ways by the first forms are there
abbrev pub invariant-loop-number : goal.invariant-loop-number
invariant-loop-number l = HasAll l.fn.choices.items l.choices.items (NumberedBelow l.number (IsSplitByNew l.forms))
