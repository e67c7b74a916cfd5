-- Words on lists, by recursion, so that a law follows the list. "Each" is `AllByRecursion` of the
-- library.
use Rattle.std.specs.Prelude.{◌⊎◌, ◌≡◌, List, [], ◌∷◌}

-- P holds of some member
abbrev pub SomeOf : {X : Type 0} → (X → Type 0) → List X → Type 0
SomeOf P [] = ⊥
SomeOf P (x ∷ xs) = P x ⊎ SomeOf P xs

-- a value is a member
abbrev pub IsAmong : {X : Type 0} → X → List X → Type 0
IsAmong x ys = SomeOf (λ y. y ≡ x) ys
