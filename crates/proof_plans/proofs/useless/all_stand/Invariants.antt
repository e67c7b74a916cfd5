use Rattle.std.proofs.Common.{take}
use Rattle.std.specs.List.{AllByRecursion}
use Rattle.proof_plans.specs.Repeats.{StandsAt}
use Rattle.proof_plans.proofs.useless.all_stand.Given as goal

-- the first facts stand in the branch
abbrev pub invariant-loop-number : goal.invariant-loop-number
invariant-loop-number l = AllByRecursion (StandsAt l.scene l.draft l.node l.base) (take l.number l.facts)
