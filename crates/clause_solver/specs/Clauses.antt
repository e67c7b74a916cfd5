-- Clauses, and the assignments under which they are true. An assignment tells each variable, by its
-- number, whether it is true.
use Rattle.std.specs.Prelude.{◌≡◌, ℕ, Bool, false, List, Option, None, Some, slice_get}
use Rattle.std.specs.List.{AllByRecursion}
use Rattle.text_core.specs.Lists.{SomeOf}
use Rattle.clause_solver.specs.declared.literal.Literal.{Literal}

-- a literal is true: its variable has the value that the literal asks for
abbrev pub IsLiteralTrue : (ℕ → Bool) → Literal → Type 0
IsLiteralTrue sigma literal = sigma literal.variable ≡ literal.positive

-- a clause is true: some literal of it is true
abbrev pub IsClauseTrue : (ℕ → Bool) → List Literal → Type 0
IsClauseTrue sigma literals = SomeOf (IsLiteralTrue sigma) literals

-- a literal that is left out is there, and is true
abbrev pub IsLeftTrue : (ℕ → Bool) → Option Literal → Type 0
IsLeftTrue sigma None = ⊥
IsLeftTrue sigma (Some literal) = IsLiteralTrue sigma literal

-- what a solver keeps: clauses, given and learnt; for each variable the value that is held for
-- certain, if one is; whether no assignment suits
pub record Kept : Type 0 where
  pub clauses : List (List Literal)
  pub certain : List (Option Bool)
  pub refuted : Bool

-- an assignment suits what a solver keeps: each clause is true under it, each variable has the
-- value that is held for certain, and it is not told that no assignment suits
pub record Suits (sigma : ℕ → Bool) (kept : Kept) : Type 0 where
  pub clauses : AllByRecursion (IsClauseTrue sigma) kept.clauses
  pub certain : (variable : ℕ) (value : Bool) → slice_get kept.certain variable ≡ Some (Some value)
      → sigma variable ≡ value
  pub unrefuted : kept.refuted ≡ false
