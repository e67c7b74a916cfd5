use Rattle.std.proofs.Common.{take}
use Rattle.std.specs.List.{AllByRecursion}
use Rattle.proof_plans.specs.Idle.{Repeats}
use Rattle.proof_plans.proofs.idle.all_repeat.Given as goal

-- the first facts are such
abbrev pub invariant-loop-number : goal.invariant-loop-number
invariant-loop-number l = AllByRecursion (Repeats l.left l.right l.premises) (take l.number l.facts)
