-- Lists in which no item stands twice, by a test of equality.
use Rattle.std.proofs.Common.{◌≡◌, ℕ, zero, suc, ◌<◌, nat_lt, position, Bool, true, false, List, [], ◌∷◌, length, slice_get, Some, refl, sym, subst, ◌∙◌, arith}
use Rattle.std.proofs.lemmas.Bool.Decides.{nat_tests}
use Rattle.std.proofs.lemmas.List.Quantifiers.{position-Some}
use Rattle.std.proofs.lemmas.Option.{slice_get_within, slice_get_read}
use Rattle.std.specs.List.{IsDistinct, position_or_len}
use Rattle.text_core.proofs.Laws.{each_get, value_same}

module _ {X : Type 0} (eq : X → X → Bool) (same : (x y : X) → eq x y ≡ true → x ≡ y) (own : (x : X) → eq x x ≡ true) where
  -- a test that fails also fails the other way round
  apart_back : (x y : X) → eq x y ≡ false → eq y x ≡ false
  apart_back x y apart = go (eq y x) refl
    where
      go : (b : Bool) → eq y x ≡ b → b ≡ false
      go true e = let equal : y ≡ x = same y x e in let itself : eq x x ≡ true = own x in let twice : eq x y ≡ true = subst (λ z. eq x z ≡ true) (sym equal) itself in cc
      go false e = refl

  -- an item is the first one that equals it
  pub own_number : (xs : List X) → IsDistinct eq xs → (i : ℕ) (x : X) → slice_get xs i ≡ Some x → position_or_len (eq x) xs ≡ i
  unfolding IsDistinct
  own_number [] distinct i x at = absurd (cc)
  own_number (y ∷ ys) distinct zero x at =
      let equal : y ≡ x = value_same at in let itself : eq x y ≡ true = subst (λ z. eq x z ≡ true) (sym equal) (own x) in rw itself refl
  own_number (y ∷ ys) distinct (suc i) x at =
      let apart : eq x y ≡ false = apart_back y x (each_get (λ z. eq y z ≡ false) ys i x distinct.0 at) in
      let rest = own_number ys distinct.1 i x at in rw apart (omega arith)

  -- so it is found by its number
  pub own_position : (xs : List X) → IsDistinct eq xs → (i : ℕ) (x : X) → slice_get xs i ≡ Some x → position (eq x) xs ≡ Some i
  own_position xs distinct i x at =
      let number = own_number xs distinct i x at in
      let below : i < length xs = slice_get_within xs i x at in
      let is : nat_lt i (length xs) ≡ true = grind (arith, nat_tests) in
      rw number (rw is refl)

  -- and has one number
  pub one_place : (xs : List X) → IsDistinct eq xs → (i j : ℕ) (x : X) → slice_get xs i ≡ Some x → slice_get xs j ≡ Some x → i ≡ j
  one_place xs distinct i j x at also = sym (own_number xs distinct i x at) ∙ own_number xs distinct j x also

  -- what is found is there
  pub found_here : (xs : List X) (i : ℕ) (x : X) → position (eq x) xs ≡ Some i → slice_get xs i ≡ Some x
  found_here xs i x found =
      let h = position-Some (eq x) xs i x found in
      slice_get_read xs (length xs) i x refl h.0 (same x _ (h.1))
