use Rattle.std.proofs.Common.{◌≡◌, ℕ, List, take}
use Rattle.proof_plans.specs.Moves.{Agrees}
use Rattle.proof_plans.proofs.Repeats.{slots_of}
use Rattle.proof_plans.proofs.barren.are_same.Given as goal

-- the first slots stand for the same elements
abbrev pub invariant-loop-at : goal.invariant-loop-at
invariant-loop-at l = (values : List ℕ) → Agrees l.draft.start l.draft.bound values
    → slots_of values l.other_base (take l.at l.others) ≡ slots_of values l.read.base (take l.at l.slots)
