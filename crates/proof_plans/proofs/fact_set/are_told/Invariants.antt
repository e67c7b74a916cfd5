use Rattle.std.proofs.Common.{ℕ, List, ◌++◌, take}
use Rattle.proof_plans.specs.Landmarks.{AreTold}
use Rattle.proof_plans.proofs.fact_set.are_told.Given as goal

-- the first of them are in the set
abbrev pub invariant-loop-number : goal.invariant-loop-number
invariant-loop-number l = (more : List ℕ) → AreTold l.set (l.values ++ more) (take l.number l.atoms)
