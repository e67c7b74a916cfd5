-- The places of a structure that is read off: the constants in order, each once.
use Rattle.std.proofs.Common.{◌≡◌, ℕ, ◌+◌, inl, inr, true, false, List, [], ◌∷◌, ◌++◌, take, refl, sym, ◌∙◌, ap, Some, nat_eq}
use Rattle.std.specs.Prelude.{slice_get}
use Rattle.std.specs.List.{AllByRecursion, IsDistinct}
use Rattle.std.specs.Cmp.Lexicographic.{pointwise, bytes_decides}
use Rattle.text_core.specs.Names.{Text}
use Rattle.text_core.specs.Lists.{IsAmong}
use Rattle.text_core.proofs.Laws.{each_both, among_append, take_next}
use Rattle.model_text.specs.Structures.{AreNew, constants_of}
use Rattle.model_text.specs.declared.structure.Place.{Place}

-- further members that are distinct, and none of them is among those before
new_of : (before xs : List Text) → IsDistinct (pointwise nat_eq) xs → AllByRecursion (λ x. IsAmong x before → ⊥) xs → AreNew before xs
unfolding IsDistinct
new_of before [] distinct apart = tt
new_of before (x ∷ xs) distinct apart = (apart.0, new_of (before ++ x ∷ []) xs distinct.1 (each_both further xs distinct.0 apart.1))
  where
    further : (y : Text) → pointwise nat_eq x y ≡ false → (IsAmong y before → ⊥) → IsAmong y (before ++ x ∷ []) → ⊥
    further y differ apart among = elim (among_append y before (x ∷ []) among) [
      | inl early ↦ apart early
      | inr (inl e) ↦ absurd (let same = (bytes_decides x y).1 e in let both : true ≡ false = sym same ∙ differ in cc)
      | inr (inr none) ↦ absurd none
    ]

apart_none : (xs : List Text) → AllByRecursion (λ x. IsAmong x [] → ⊥) xs
apart_none [] = tt
apart_none (x ∷ xs) = ((λ none. none), apart_none xs)

-- names that are distinct are new
pub new_all : (xs : List Text) → IsDistinct (pointwise nat_eq) xs → AreNew [] xs
new_all xs distinct = new_of [] xs distinct (apart_none xs)

-- the constants of places with one more
pub constants_more : (places : List Place) (place : Place) (names : List Text) (i : ℕ) (name : Text) → slice_get names i ≡ Some name
    → place.constant ≡ name → constants_of places ≡ take i names → constants_of (places ++ place ∷ []) ≡ take (i + 1) names
constants_more places place names i name at same before = all places ∙ (λ j. before j ++ same j ∷ []) ∙ sym (take_next names i name at)
  where
    all : (ps : List Place) → constants_of (ps ++ place ∷ []) ≡ constants_of ps ++ place.constant ∷ []
    all [] = refl
    all (p ∷ ps) = ap (λ (xs : List Text). p.constant ∷ xs) (all ps)
