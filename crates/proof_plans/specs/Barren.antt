-- Applications that make nothing new.
use Rattle.std.specs.Prelude.{ℕ, ◌≡◌, List, [], ◌∷◌, slice_get, Some}
use Rattle.std.specs.List.{AllByRecursion}
use Rattle.logic_core.specs.declared.form.Atom.{Atom}
use Rattle.proof_plans.specs.Runs.{Fire, lists_of, Has}

-- the line of an application is one of facts that stand before it, and it has no new elements
pub record IsBarren (fires : List Fire) (index : ℕ) (fire : Fire) : Type 0 where
  pub facts : List Atom
  pub one : lists_of fire ≡ facts ∷ []
  pub none : fire.form.existentials ≡ 0
  pub stand : AllByRecursion (λ fact. Has fires fact index fire.branch) facts

-- no application makes nothing new
abbrev pub IsTight : List Fire → Type 0
IsTight fires = (index : ℕ) (fire : Fire) → slice_get fires index ≡ Some fire
    → IsBarren fires index fire → ⊥
