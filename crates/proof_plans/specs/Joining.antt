-- What two variables stand for so far, and what follows where they stand for one element.
use Rattle.std.specs.Prelude.{ℕ, ◌+◌, ◌-◌, ◌<◌, ◌≤◌, ◌≡◌, ◌≢◌, ◌⊎◌, Bool, true, false, List, length, slice_get, slice_index, get_or, Some}
use Rattle.proof_plans.specs.declared.joining.Joined as Joined
use Rattle.proof_plans.specs.declared.joining.Joined.TheVariants as joined
use Rattle.proof_plans.specs.Moves.{Agrees, Differ}

-- a variable to which another one is bound in the end, and which is free
pub record IsRoot (start : ℕ) (bound : List ℕ) (variable root : ℕ) : Type 0 where
  pub same : (values : List ℕ) → Agrees start bound values
      → slice_index values variable ≡ slice_index values root
  pub within : root < start + length bound
  pub free : start ≤ root → slice_get bound (root - start) ≡ Some root

-- an element of the context, or a new element
abbrev pub IsFixed : ℕ → List Bool → ℕ → Type 0
IsFixed start fixed root = (root < start) ⊎ ((start ≤ root) × (get_or fixed (root - start) false ≡ true))

-- a free variable is to be bound
pub record Binds (start : ℕ) (bound : List ℕ) (left right at to : ℕ) : Type 0 where
  pub free : slice_get bound at ≡ Some (start + at)
  pub within : to < start + length bound
  pub binds : (values : List ℕ) → Agrees start bound values
      → slice_index values left ≡ slice_index values right
      → slice_index values (start + at) ≡ slice_index values to

abbrev pub IsJoined : ℕ → List ℕ → List Bool → ℕ → ℕ → Joined.Joined → Type 0
IsJoined start bound fixed left right joined.Same = Unit {0}
IsJoined start bound fixed left right joined.Clash = (values : List ℕ) → Agrees start bound values
    → Differ start fixed values → slice_index values left ≢ slice_index values right
IsJoined start bound fixed left right (joined.Bind at to) = Binds start bound left right at to
IsJoined start bound fixed left right joined.Unknown = Unit {0}
