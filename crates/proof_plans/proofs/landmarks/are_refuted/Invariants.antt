use Rattle.std.proofs.Common.{take}
use Rattle.std.specs.List.{AllByRecursion}
use Rattle.proof_plans.specs.Landmarks.{IsRefuted}
use Rattle.proof_plans.proofs.landmarks.are_refuted.Given as goal

-- the first forms are such
abbrev pub invariant-loop-number : goal.invariant-loop-number
invariant-loop-number l = AllByRecursion (IsRefuted l.set) (take l.number l.forms)
