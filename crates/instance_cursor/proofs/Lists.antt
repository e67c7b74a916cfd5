-- Laws on lists by number that the library does not have in this form.
use Rattle.std.proofs.Common.{◌≡◌, ℕ, zero, suc, ◌+◌, ◌<◌, ◌≤◌, ◌⊎◌, inl, inr, List, [], ◌∷◌, map, length, get_or, Some, slice_get, refl, ap, arith}
use Rattle.std.specs.List.{AllByRecursion}

-- what holds of the item with each number holds of each item
pub each_from : {X : Type 0} (P : X → Type 0) (xs : List X) → ((i : ℕ) (x : X) → slice_get xs i ≡ Some x → P x) → AllByRecursion P xs
each_from P [] h = tt
each_from P (x ∷ xs) h = (h zero x refl, each_from P xs (λ i. h (suc i)))

-- what holds of each number below the length holds of each item
pub each_below_length : (P : ℕ → Type 0) (xs : List ℕ) → ((i : ℕ) → i < length xs → P (get_or xs i 0)) → AllByRecursion P xs
each_below_length P [] h = tt
each_below_length P (x ∷ xs) h = (h zero (omega arith), each_below_length P xs (λ i low. h (suc i) (omega arith)))

-- there is an item with each number below the length
pub item_below : {X : Type 0} (xs : List X) (i : ℕ) → i < length xs → (x : X) × (slice_get xs i ≡ Some x)
item_below [] i h = absurd (omega arith)
item_below (x ∷ xs) zero h = (x, refl)
item_below (x ∷ xs) (suc i) h = item_below xs i (omega arith)

-- the image of the item with a number
pub map_at : {X : Type 0} (f : X → ℕ) (xs : List X) (i : ℕ) (x : X) → slice_get xs i ≡ Some x → get_or (map f xs) i 0 ≡ f x
map_at f [] i x e = absurd (cc)
map_at f (y ∷ xs) zero x e = let same : y ≡ x = cc in ap f same
map_at f (y ∷ xs) (suc i) x e = map_at f xs i x e

-- a number that is not below a bound is the bound and a rest
pub rest_of_number : (bound i : ℕ) → bound ≤ i → (r : ℕ) × (i ≡ bound + r)
rest_of_number zero i h = (i, omega arith)
rest_of_number (suc bound) zero h = absurd (omega arith)
rest_of_number (suc bound) (suc i) h = let rest = rest_of_number bound i (omega arith) in (rest.0, let e = rest.1 in omega arith)

-- a number is below a bound, or it is not
pub below_or_not : (i bound : ℕ) → (i < bound) ⊎ (bound ≤ i)
below_or_not i zero = inr (omega arith)
below_or_not zero (suc bound) = inl (omega arith)
below_or_not (suc i) (suc bound) = elim (below_or_not i bound) [ inl l ↦ inl (omega arith) | inr l ↦ inr (omega arith) ]

-- a number below the next one is below it, or it is that one
pub below_or_last : (i last : ℕ) → i < suc last → (i < last) ⊎ (last ≡ i)
below_or_last i last h = elim (below_or_not i last) [ inl l ↦ inl l | inr l ↦ inr (omega arith) ]
