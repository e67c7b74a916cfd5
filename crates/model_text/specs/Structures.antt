-- Finite structures: what is seen of one, and what holds of each that a text gives.
use Rattle.std.specs.Prelude.{ℕ, ◌<◌, ◌≤◌, List, [], ◌∷◌, ◌++◌, map}
use Rattle.std.specs.List.{AllByRecursion}
use Rattle.text_core.specs.Names.{Text}
use Rattle.text_core.specs.Lists.{IsAmong}
use Rattle.model_text.specs.declared.limits.TheConstants.{MOST_ELEMENTS}
use Rattle.model_text.specs.declared.structure.Place.{Place}
use Rattle.model_text.specs.declared.structure.Fact.{Fact}

-- how many elements there are, the elements of constants, and what holds
pub record Finite : Type 0 where
  pub size : ℕ
  pub places : List Place
  pub facts : List Fact

-- the constants of places
abbrev pub constants_of : List Place → List Text
constants_of places = map (λ (p : Place). p.constant) places

-- none of the further members is among those before it
abbrev pub AreNew : {X : Type 0} → List X → List X → Type 0
AreNew before [] = Unit {0}
AreNew before (x ∷ xs) = (IsAmong x before → ⊥) × AreNew (before ++ x ∷ []) xs

-- the numbers are elements
abbrev pub AreElements : ℕ → List ℕ → Type 0
AreElements size xs = AllByRecursion (λ x. x < size) xs

-- there are 1 to 64 elements, each number is one of them, and no constant has two places
pub record IsSound (m : Finite) : Type 0 where
  pub some : 1 ≤ m.size
  pub few : m.size ≤ MOST_ELEMENTS
  pub placed : AllByRecursion (λ (p : Place). p.element < m.size) m.places
  pub once : AreNew [] (constants_of m.places)
  pub arguments : AllByRecursion (λ (f : Fact). AreElements m.size f.arguments) m.facts
