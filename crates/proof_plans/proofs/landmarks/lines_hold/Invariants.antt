use Rattle.std.proofs.Common.{take}
use Rattle.std.specs.List.{AllByRecursion}
use Rattle.proof_plans.specs.Landmarks.{LineHolds}
use Rattle.proof_plans.proofs.landmarks.lines_hold.Given as goal

-- the first lines hold
abbrev pub invariant-loop-number : goal.invariant-loop-number
invariant-loop-number l = AllByRecursion (LineHolds l.set) (take l.number l.lines)
