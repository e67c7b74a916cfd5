use Rattle.std.proofs.Common.{◌≡◌, ℕ, List, slice_index}
use Rattle.proof_plans.specs.Moves.{Agrees}
use Rattle.proof_plans.proofs.joining.root.Given as goal

-- the variable stands for the same element as the one that was reached
abbrev pub invariant-loop-round : goal.invariant-loop-round
invariant-loop-round l = (values : List ℕ) → Agrees l.start l.bound values → slice_index values l.variable ≡ slice_index values l.at
