-- When a finite structure is a countermodel of a problem, and why another one is none.
use Rattle.std.specs.Prelude.{ℕ, ◌+◌, ◌≡◌, ◌≤◌, List, [], ◌∷◌, ◌++◌, length}
use Rattle.std.specs.List.{AllByRecursion}
use Rattle.text_core.specs.Names.{Text}
use Rattle.text_core.specs.Lists.{IsAmong}
use Rattle.logic_core.specs.Truth.{Structure, IsTrueIn}
use Rattle.logic_core.specs.declared.problem.Role.{Role}
use Rattle.logic_core.specs.declared.problem.Role.TheVariants.{Conjecture}
use Rattle.logic_core.specs.declared.problem.Fof.{Fof}
use Rattle.model_text.specs.Structures.{Finite, constants_of}
use Rattle.finite_model.specs.Structures.{finite}
use Rattle.finite_model.specs.declared.refusal.ConfirmRefusal.{ConfirmRefusal}
use Rattle.finite_model.specs.declared.refusal.ConfirmRefusal.TheVariants.{ModelPlace, ModelFails, Memory}

-- what is wanted of a formula with this role: a premise is to be true, and a conjecture is not
abbrev pub Wanted : Role → Type 0 → Type 0
Wanted Conjecture P = P → ⊥
Wanted _ P = P

-- and what is not
abbrev pub Unwanted : Role → Type 0 → Type 0
Unwanted Conjecture P = P
Unwanted _ P = P → ⊥

-- in the structure the formula is as it is wanted
abbrev pub Suits : Structure → Fof → Type 0
Suits s fof = Wanted fof.role (IsTrueIn s fof.formula [])

-- in the structure the formula fails
abbrev pub Fails : Structure → Fof → Type 0
Fails s fof = Unwanted fof.role (IsTrueIn s fof.formula [])

-- the constant has a place
abbrev pub IsPlaced : Finite → Text → Type 0
IsPlaced m constant = IsAmong constant (constants_of m.places)

-- the structure has an element and a place for each constant, every premise is true in it, and the
-- conjecture is not
pub record IsCountermodel (constants : List Text) (problem : List Fof) (m : Finite) : Type 0 where
  pub some : 1 ≤ m.size
  pub placed : AllByRecursion (IsPlaced m) constants
  pub suits : AllByRecursion (Suits (finite m)) problem

-- P holds of each member before the one with this number, from 1, and Q of that one
pub record IsFirst {X : Type 0} (P Q : X → Type 0) (list : List X) (number : ℕ) : Type 0 where
  pub front : List X
  pub item : X
  pub rest : List X
  pub split : list ≡ front ++ item ∷ rest
  pub holds : AllByRecursion P front
  pub fails : Q item
  pub number_is : number ≡ length front + 1

-- why a structure is no countermodel: the first constant that has no place, else the first formula
-- that fails
abbrev pub IsConfirmFault : List Text → List Fof → Finite → ConfirmRefusal → Type 0
IsConfirmFault constants problem m (ModelPlace number) =
    IsFirst (IsPlaced m) (λ constant. IsPlaced m constant → ⊥) constants number
IsConfirmFault constants problem m (ModelFails number) =
    AllByRecursion (IsPlaced m) constants ×
    IsFirst (Suits (finite m)) (Fails (finite m)) problem number
IsConfirmFault constants problem m Memory = ⊥
