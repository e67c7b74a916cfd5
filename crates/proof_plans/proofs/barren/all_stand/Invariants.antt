use Rattle.std.proofs.Common.{take}
use Rattle.std.specs.List.{AllByRecursion}
use Rattle.proof_plans.specs.Repeats.{StandsBefore}
use Rattle.proof_plans.proofs.barren.all_stand.Given as goal

-- the first facts stand before the step
abbrev pub invariant-loop-number : goal.invariant-loop-number
invariant-loop-number l = AllByRecursion (StandsBefore l.scene l.draft l.step l.base) (take l.number l.facts)
