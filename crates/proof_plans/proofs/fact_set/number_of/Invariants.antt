use Rattle.std.proofs.Common.{ℕ, List, ◌≡◌, ◌++◌, map, take}
use Rattle.vernacular_tree.specs.Contexts.{slot_at}
use Rattle.proof_plans.specs.Landmarks.{digits}
use Rattle.proof_plans.proofs.fact_set.number_of.Given as goal

-- the number of the first digits
abbrev pub invariant-loop-at : goal.invariant-loop-at
invariant-loop-at l = (more : List ℕ) → l.number ≡ digits l.base l.first (map (slot_at (l.values ++ more)) (take l.at l.slots))
