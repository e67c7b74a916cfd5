use Rattle.std.proofs.Common.{take}
use Rattle.std.specs.List.{AllByRecursion}
use Rattle.proof_plans.specs.Signs.{IsKept}
use Rattle.proof_plans.proofs.reach.all_kept.Given as goal

-- the first forms lead to no further sign
abbrev pub invariant-loop-number : goal.invariant-loop-number
invariant-loop-number l = AllByRecursion (IsKept l.row) (take l.number l.forms)
