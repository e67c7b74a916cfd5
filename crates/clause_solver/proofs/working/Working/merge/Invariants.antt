use Rattle.std.proofs.Common.{ℕ, ◌⊎◌, Bool, take}
use Rattle.clause_solver.specs.Clauses.{IsLeftTrue, IsClauseTrue, Suits}
use Rattle.clause_solver.specs.Stored.{kept_in}
use Rattle.clause_solver.proofs.working.Working.merge.Given as goal

abbrev pub invariant-loop-literal : goal.invariant-loop-literal
invariant-loop-literal l = record {
  before : (sigma : ℕ → Bool) → IsClauseTrue sigma l.initial.self.literals.items → IsClauseTrue sigma l.self.literals.items;
  more : (sigma : ℕ → Bool) → Suits sigma (kept_in l.store) → IsClauseTrue sigma (take l.literal-index l.clause)
      → IsLeftTrue sigma l.left ⊎ IsClauseTrue sigma l.self.literals.items;
}
