-- How a store lays out what it keeps, and what follows from it.
use Rattle.std.specs.Prelude.{ℕ, Bool, List, map, take, drop}
use Rattle.std.specs.List.{AllByRecursion}
use Rattle.clause_solver.specs.declared.literal.Literal.{Literal}
use Rattle.clause_solver.specs.declared.store.Part.{Part}
use Rattle.clause_solver.specs.declared.store.Store.{Store}
use Rattle.clause_solver.specs.Clauses.{IsClauseTrue, Kept, Suits}

-- the literals of a part
abbrev pub literals_of : List Literal → Part → List Literal
literals_of literals part = take part.count (drop part.start literals)

-- the clauses that are laid out so are true
abbrev pub AreTrue : (ℕ → Bool) → List Literal → List Part → Type 0
AreTrue sigma literals parts =
    AllByRecursion (IsClauseTrue sigma) (map (literals_of literals) parts)

-- what a store keeps
abbrev pub kept_in : Store → Kept
kept_in store = record {
  clauses = map (literals_of store.literals.items) store.parts.items;
  certain = store.certain.items;
  refuted = store.refuted;
}

-- whatever suits the first also suits the second
abbrev pub StaySuited : Kept → Kept → Type 0
StaySuited old new = (sigma : ℕ → Bool) → Suits sigma old → Suits sigma new

-- a clause is true under each assignment that suits
abbrev pub Follows : Kept → List Literal → Type 0
Follows kept clause = (sigma : ℕ → Bool) → Suits sigma kept → IsClauseTrue sigma clause
