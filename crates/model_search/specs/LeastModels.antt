-- What is answered for a problem and a greatest size.
use Rattle.std.specs.Prelude.{ℕ, ◌≤◌, ◌<◌, List, Option, Some, None}
use Rattle.text_core.specs.Names.{Text}
use Rattle.logic_core.specs.declared.problem.Fof.{Fof}
use Rattle.model_text.specs.Structures.{Finite, IsSound}
use Rattle.finite_model.specs.Countermodels.{IsCountermodel}

-- a countermodel with at most so many elements, and none has fewer
pub record IsLeast (constants : List Text) (problem : List Fof) (size : ℕ) (m : Finite)
    : Type 0 where
  pub counter : IsCountermodel constants problem m
  pub within : m.size ≤ size
  pub least : (other : Finite) → IsSound other → other.size < m.size
      → IsCountermodel constants problem other → ⊥

-- no structure with at most so many elements is a countermodel
abbrev pub HasNone : List Text → List Fof → ℕ → Type 0
HasNone constants problem size = (m : Finite) → IsSound m → m.size ≤ size
    → IsCountermodel constants problem m → ⊥

-- a countermodel with the fewest elements, or none, since there is none
abbrev pub IsLeastCountermodel : List Text → List Fof → ℕ → Option Finite → Type 0
IsLeastCountermodel constants problem size (Some m) = IsLeast constants problem size m
IsLeastCountermodel constants problem size None = HasNone constants problem size
