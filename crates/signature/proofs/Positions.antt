-- The number of the first item that passes a test, and lists seen through a function.
use Rattle.std.proofs.Common.{◌≡◌, ◌+◌, Bool, cond, not, ◌||◌, List, [], ◌∷◌, map, length, Some, None, refl, ap, ◌∙◌, arith, position, nat_lt}
use Rattle.std.specs.List.{AllByRecursion, list_any, position_or_len}

-- the number by a test of what f makes of each item
pub position_or_len-map : {A B : Type 0} (f : A → B) (t : B → Bool) (xs : List A) → position_or_len t (map f xs) ≡ position_or_len (λ x. t (f x)) xs
position_or_len-map f t [] = refl
position_or_len-map f t (x ∷ xs) = λ i. cond (not (t (f x))) (1 + position_or_len-map f t xs i) 0

-- some item passes, by a test of what f makes of each item
pub list_any-map : {A B : Type 0} (f : A → B) (t : B → Bool) (xs : List A) → list_any t (map f xs) ≡ list_any (λ x. t (f x)) xs
list_any-map f t [] = refl
list_any-map f t (x ∷ xs) = ap (λ b. t (f x) || b) (list_any-map f t xs)

-- a list seen through f is as long
length-seen : {A B : Type 0} (f : A → B) (xs : List A) → length (map f xs) ≡ length xs
length-seen f [] = refl
length-seen f (x ∷ xs) = let e = length-seen f xs in omega arith

-- two tests that agree on each item pass first at the same number
pub position_or_len-agree : {A : Type 0} (t u : A → Bool) (xs : List A) → AllByRecursion (λ x. t x ≡ u x) xs → position_or_len t xs ≡ position_or_len u xs
position_or_len-agree t u [] h = refl
position_or_len-agree t u (x ∷ xs) h = λ i. cond (not (h.0 i)) (1 + position_or_len-agree t u xs h.1 i) 0

-- two tests that agree on each item pass some item, or both none
pub list_any-agree : {A : Type 0} (t u : A → Bool) (xs : List A) → AllByRecursion (λ x. t x ≡ u x) xs → list_any t xs ≡ list_any u xs
list_any-agree t u [] h = refl
list_any-agree t u (x ∷ xs) h = λ i. h.0 i || list_any-agree t u xs h.1 i

-- the number in the list seen through f, by a test that agrees
pub position-seen : {A B : Type 0} (f : A → B) (t : B → Bool) (u : A → Bool) (xs : List A) → AllByRecursion (λ x. t (f x) ≡ u x) xs → position t (map f xs) ≡ position u xs
position-seen f t u xs h =
    let number = position_or_len-map f t xs ∙ position_or_len-agree (λ x. t (f x)) u xs h in
    λ i. cond (nat_lt (number i) (length-seen f xs i)) (Some (number i)) None

-- the number, or the length, in the list seen through f, by a test that agrees
pub position_or_len-seen : {A B : Type 0} (f : A → B) (t : B → Bool) (u : A → Bool) (xs : List A) → AllByRecursion (λ x. t (f x) ≡ u x) xs → position_or_len t (map f xs) ≡ position_or_len u xs
position_or_len-seen f t u xs h = position_or_len-map f t xs ∙ position_or_len-agree (λ x. t (f x)) u xs h

-- some item passes in the list seen through f, by a test that agrees
pub list_any-seen : {A B : Type 0} (f : A → B) (t : B → Bool) (u : A → Bool) (xs : List A) → AllByRecursion (λ x. t (f x) ≡ u x) xs → list_any t (map f xs) ≡ list_any u xs
list_any-seen f t u xs h = list_any-map f t xs ∙ list_any-agree (λ x. t (f x)) u xs h
