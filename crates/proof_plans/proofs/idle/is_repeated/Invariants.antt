use Rattle.std.proofs.Common.{ℕ, List, ◌≡◌, map, take}
use Rattle.vernacular_tree.specs.Contexts.{slot_at}
use Rattle.proof_plans.proofs.idle.is_repeated.Given as goal

-- the first slots stand for the same elements
abbrev pub invariant-loop-at : goal.invariant-loop-at
invariant-loop-at l = (values : List ℕ) → slot_at values l.left ≡ slot_at values l.right
    → map (slot_at values) (take l.at l.others) ≡ map (slot_at values) (take l.at l.slots)
