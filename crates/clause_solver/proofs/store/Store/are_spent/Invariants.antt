use Rattle.std.proofs.Common.{ℕ, Bool, take}
use Rattle.clause_solver.specs.Clauses.{IsLeftTrue, IsClauseTrue, Suits}
use Rattle.clause_solver.specs.Stored.{kept_in}
use Rattle.clause_solver.proofs.store.Store.are_spent.Given as goal

abbrev pub invariant-loop-literal : goal.invariant-loop-literal
invariant-loop-literal l = (sigma : ℕ → Bool) → Suits sigma (kept_in l.self) → IsClauseTrue sigma (take l.literal-index l.clause) → IsLeftTrue sigma l.left
