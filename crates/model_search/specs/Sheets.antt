-- What holds of clauses that are made for candidates.
use Rattle.std.specs.Prelude.{ℕ, ◌≡◌, ◌⊎◌, Bool, true, List}
use Rattle.clause_solver.specs.Clauses.{Kept, Suits, IsClauseTrue}
use Rattle.clause_solver.specs.declared.literal.Literal.{Literal}
use Rattle.model_search.specs.Candidates.{Candidate}
use Rattle.model_search.specs.Keys.{Agrees, AllTrue}
use Rattle.model_search.specs.declared.key.Ground.{Ground}
use Rattle.model_search.specs.declared.key.Key.{Key}

-- the keys of the variables, the clauses of the solver, and one clause in the making: its literals
-- so far, and whether it is known to be true
pub record Drawn : Type 0 where
  pub keys : List Key
  pub kept : Kept
  pub literals : List Literal
  pub is_true : Bool

-- what the solver keeps is true of the candidate
abbrev pub IsSuited : Candidate → Drawn → Type 0
IsSuited c s = (sigma : ℕ → Bool) → Agrees sigma c s.keys → Suits sigma s.kept

-- the clause in the making is true of the candidate
abbrev pub Covers : Candidate → Drawn → Type 0
Covers c s = (sigma : ℕ → Bool) → Agrees sigma c s.keys
    → IsClauseTrue sigma s.literals ⊎ (s.is_true ≡ true)

-- the keys and the clause in the making have grown
pub record Grows (old new : Drawn) : Type 0 where
  pub agrees : (c : Candidate) (sigma : ℕ → Bool) → Agrees sigma c new.keys
      → Agrees sigma c old.keys
  pub covers : (c : Candidate) → Covers c old → Covers c new

-- they have grown, and further clauses of the solver are true of each candidate
pub record Goes (old new : Drawn) : Type 0 where
  pub grows : Grows old new
  pub suited : (c : Candidate) → IsSuited c old → IsSuited c new

-- further clauses of the solver are true of each candidate of whom P holds
abbrev pub GoesIf : (Candidate → Type 0) → Drawn → Drawn → Type 0
GoesIf P old new = (c : Candidate) → P c → IsSuited c old → IsSuited c new

-- the variable is true only where all of the atoms are
abbrev pub Implies : Drawn → ℕ → List Ground → Candidate → Type 0
Implies s variable grounds c = (sigma : ℕ → Bool) → Agrees sigma c s.keys
    → sigma variable ≡ true → AllTrue c grounds
