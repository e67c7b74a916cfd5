-- Members, tests and items of lists, one behind the other.
use Rattle.std.proofs.Common.{◌≡◌, ℕ, zero, suc, ◌+◌, ◌<◌, ◌≤◌, ◌⊎◌, inl, inr, Bool, true, false, ◌||◌, List, [], ◌∷◌, ◌++◌, length, get_or, slice_get, Some, refl, ap, sym, ◌∙◌, arith, add-one, add-zero}
use Rattle.std.specs.List.{list_any}
use Rattle.std.specs.Bool.{Decides, OnTrue, OnFalse}
use Rattle.std.proofs.lemmas.Bool.{false≢true}
use Rattle.std.proofs.lemmas.Option.{slice_get-get_or}
use Rattle.text_core.specs.Lists.{SomeOf}
use Rattle.text_core.proofs.Laws.{some_front, some_back, some_append}
use Rattle.vernacular_tree.specs.Contexts.{counted}

-- a test or another one passes
pub or_left : (a b : Bool) → a ≡ true → (a || b) ≡ true
or_left true b e = refl
or_left false b e = absurd (cc)

pub or_right : (a b : Bool) → b ≡ true → (a || b) ≡ true
or_right true b e = refl
or_right false b e = e

-- the second of three tests goes with the first or with the third
pub or_shifted : (a b c : Bool) → (a || (b || c)) ≡ ((a || b) || c)
or_shifted true b c = refl
or_shifted false b c = refl

-- some member of two lists, one behind the other, passes
pub any_append : {X : Type 0} (test : X → Bool) (xs ys : List X) → list_any test (xs ++ ys) ≡ (list_any test xs || list_any test ys)
any_append test [] ys = refl
any_append test (x ∷ xs) ys = ap (λ b. test x || b) (any_append test xs ys) ∙ or_shifted (test x) (list_any test xs) (list_any test ys)

-- one of two tests decides whether one of two things holds
pub either : (a b : Bool) (P Q : Type 0) → Decides a P → Decides b Q → Decides (a || b) (P ⊎ Q)
either true b P Q x y = ((λ e. inl (x.0 refl)), (λ h. refl))
either false b P Q x y = ((λ e. inr (y.0 e)), (λ h. elim h [ inl p ↦ absurd (let bad : false ≡ true = x.1 p in cc) | inr q ↦ y.1 q ]))

-- a test decides what follows and leads back
pub decides_so : (a : Bool) (P Q : Type 0) → (P → Q) → (Q → P) → Decides a P → Decides a Q
decides_so a P Q there back x = ((λ e. there (x.0 e)), (λ q. x.1 (back q)))

-- some member of a list with one more behind it
pub some_last : {X : Type 0} (P : X → Type 0) (xs : List X) (x : X) → SomeOf P (xs ++ x ∷ []) → SomeOf P xs ⊎ P x
some_last P xs x h = elim (some_append P xs (x ∷ []) h) [ inl front ↦ inl front | inr back ↦ elim back [ inl here ↦ inr here | inr none ↦ absurd none ] ]

pub last_some : {X : Type 0} (P : X → Type 0) (xs : List X) (x : X) → SomeOf P xs ⊎ P x → SomeOf P (xs ++ x ∷ [])
last_some P xs x (inl front) = some_front P xs (x ∷ []) front
last_some P xs x (inr here) = some_back P xs (x ∷ []) (inl here)

-- an item that was read has its number
pub item_read : {X : Type 0} (xs : List X) (i : ℕ) (x : X) → i < length xs → x ≡ get_or xs i x → slice_get xs i ≡ Some x
item_read xs i x below is = slice_get-get_or xs i x below ∙ ap Some (sym is)

-- numbers in a row, with one more
pub counted_last : (first count : ℕ) → counted first (count + 1) ≡ counted first count ++ (first + count) ∷ []
counted_last first count = rw add-one (last first count)
  where
    last : (first count : ℕ) → counted first (suc count) ≡ counted first count ++ (first + count) ∷ []
    last first zero = ap (λ n. n ∷ []) (sym (add-zero first))
    last first (suc count) =
        let same : first + 1 + count ≡ first + suc count = omega arith in
        ap (λ (ns : List ℕ). first ∷ ns) (last (first + 1) count ∙ ap (λ n. counted (first + 1) count ++ n ∷ []) same)

-- a list of one item
pub single_item : {X : Type 0} (xs : List X) (x : X) → 1 ≤ length xs → length xs < 2 → x ≡ get_or xs 0 x → xs ≡ x ∷ []
single_item [] x some one is = absurd (omega arith)
single_item (y ∷ []) x some one is = ap (λ z. z ∷ []) (sym is)
single_item (y ∷ z ∷ xs) x some one is = absurd (omega arith)

-- what holds where a test passes, and what holds where it fails
pub on_true : (b : Bool) (P : Type 0) → OnTrue b P → b ≡ true → P
on_true true P h e = h
on_true false P h e = absurd (false≢true e)

pub on_false : (b : Bool) (P : Type 0) → OnFalse b P → b ≡ false → P
on_false true P h e = absurd (false≢true (sym e))
on_false false P h e = h
