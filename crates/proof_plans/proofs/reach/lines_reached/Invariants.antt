use Rattle.std.proofs.Common.{take}
use Rattle.std.specs.List.{AllByRecursion}
use Rattle.proof_plans.specs.Signs.{LineReached}
use Rattle.proof_plans.proofs.reach.lines_reached.Given as goal

-- the first of them are reached
abbrev pub invariant-loop-number : goal.invariant-loop-number
invariant-loop-number l = AllByRecursion (LineReached l.row) (take l.number l.lines)
