use Rattle.std.proofs.Common.{ℕ, Bool}
use Rattle.clause_solver.specs.Clauses.{Suits}
use Rattle.clause_solver.specs.Stored.{kept_in, AreTrue}
use Rattle.clause_solver.proofs.store.Store.keep.Given as goal

abbrev pub invariant-loop-number : goal.invariant-loop-number
invariant-loop-number l = (sigma : ℕ → Bool) → Suits sigma (kept_in l.initial.self) → AreTrue sigma l.literals.items l.parts.items
