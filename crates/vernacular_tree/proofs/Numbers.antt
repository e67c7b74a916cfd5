-- Laws on numbers in a row and on lists of elements that are read by number.
use Rattle.std.proofs.Common.{◌≡◌, ℕ, zero, suc, ◌+◌, ◌<◌, ◌≤◌, List, [], ◌∷◌, ◌++◌, map, length, slice_index, refl, ap, append_assoc, arith, length-append}
use Rattle.std.proofs.Math.Seq.{get_or-append_seam}
use Rattle.std.proofs.lemmas.List.{map-append, get_or_append_left}
use Rattle.std.specs.List.{AllByRecursion}
use Rattle.vernacular_tree.specs.Contexts.{counted}
use Rattle.text_core.proofs.Laws.{each_same, each_map}

-- numbers in a row are as many as asked for
pub counted_length : (first k : ℕ) → length (counted first k) ≡ k
counted_length first zero = refl
counted_length first (suc k) = ap suc (counted_length (first + 1) k)

-- numbers in a row that end at a bound are below it
pub counted_below : (first k most : ℕ) → first + k ≤ most → AllByRecursion (λ x. x < most) (counted first k)
counted_below first zero most h = tt
counted_below first (suc k) most h = (omega arith, counted_below (first + 1) k most (omega arith))

-- the number at an index of numbers in a row is the first number plus the index
pub counted_at : (first k c : ℕ) → c < k → slice_index (counted first k) c ≡ first + c
counted_at first zero c h = absurd (omega arith)
counted_at first (suc k) zero h = omega arith
counted_at first (suc k) (suc c) h = let rest = counted_at (first + 1) k c (omega arith) in omega arith

-- the new numbers read the new elements
pub counted_read : (e ys : List ℕ) (n k : ℕ) → length e ≡ n → length ys ≡ k → map (slice_index (e ++ ys)) (counted n k) ≡ ys
counted_read e [] n zero a b = refl
counted_read e [] n (suc k) a b = absurd (omega arith)
counted_read e (y ∷ ys) n zero a b = absurd (omega arith)
counted_read e (y ∷ ys) n (suc k) a b =
    let head : slice_index (e ++ y ∷ ys) n ≡ y = rw (← a) (get_or-append_seam e y ys 0) in
    let longer : length (e ++ y ∷ []) ≡ n + 1 = omega (arith, length-append e (y ∷ [])) in
    let rest : map (slice_index ((e ++ y ∷ []) ++ ys)) (counted (n + 1) k) ≡ ys = counted_read (e ++ y ∷ []) ys (n + 1) k longer (omega arith) in
    let rest2 : map (slice_index (e ++ y ∷ ys)) (counted (n + 1) k) ≡ ys = rw append_assoc at rest in
    cc

-- old numbers read the old elements
pub old_read : (e ys args : List ℕ) → AllByRecursion (λ x. x < length e) args → map (slice_index (e ++ ys)) args ≡ map (slice_index e) args
old_read e ys args h = each_same (slice_index (e ++ ys)) (slice_index e) args (each_map (λ x below. get_or_append_left e ys 0 x below) args h)

-- old and new numbers together
pub both_read : (e ys args : List ℕ) (n k : ℕ) → length e ≡ n → length ys ≡ k → AllByRecursion (λ x. x < n) args
    → map (slice_index (e ++ ys)) (args ++ counted n k) ≡ map (slice_index e) args ++ ys
both_read e ys args n k a b h =
    let split = map-append (slice_index (e ++ ys)) args (counted n k) in
    let old = old_read e ys args (rw (← a) at h) in
    let new = counted_read e ys n k a b in
    cc

-- numbers below one bound are below a greater one
pub below_greater : (n m : ℕ) (xs : List ℕ) → n ≤ m → AllByRecursion (λ x. x < n) xs → AllByRecursion (λ x. x < m) xs
below_greater n m xs le h = each_map {Q = λ x. x < m} (λ x below. let b : x < n = below in omega arith) xs h
