-- Numbers in a row, and items that are repeated.
use Rattle.std.proofs.Common.{◌≡◌, ℕ, zero, suc, ◌+◌, List, [], ◌∷◌, ◌++◌, map, replicate, refl, ap, ◌∙◌, arith, add-one}
use Rattle.std.specs.List.{AllByRecursion}
use Rattle.vernacular_tree.specs.Contexts.{counted}

-- numbers in a row with one more
pub counted_more : (first n : ℕ) → counted first (n + 1) ≡ counted first n ++ (first + n) ∷ []
counted_more first n = rw add-one (go first n)
  where
    go : (first n : ℕ) → counted first (suc n) ≡ counted first n ++ (first + n) ∷ []
    go first zero = let same : first ≡ first + 0 = omega arith in ap (λ (k : ℕ). k ∷ []) same
    go first (suc n) =
        let same : first + 1 + n ≡ first + suc n = omega arith in
        ap (λ (xs : List ℕ). first ∷ xs) (go (first + 1) n ∙ ap (λ (k : ℕ). counted (first + 1) n ++ k ∷ []) same)

-- an item that is repeated once more
pub replicate_more : {X : Type 0} (x : X) (n : ℕ) → replicate (n + 1) x ≡ replicate n x ++ x ∷ []
replicate_more x n = rw add-one (go n)
  where
    go : (n : ℕ) → replicate (suc n) x ≡ replicate n x ++ x ∷ []
    go zero = refl
    go (suc n) = ap (λ (xs : List _). x ∷ xs) (go n)

-- what holds of the image of each item holds of each image
pub each_images : {X Y : Type 0} (P : Y → Type 0) (f : X → Y) (xs : List X) → AllByRecursion (λ x. P (f x)) xs → AllByRecursion P (map f xs)
each_images P f [] h = tt
each_images P f (x ∷ xs) h = (h.0, each_images P f xs h.1)
