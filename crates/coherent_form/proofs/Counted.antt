-- Numbers in a row, and lists that are made over them: what holds of each member, that no two members are the same, and lengths.
use Rattle.std.proofs.Common.{◌≡◌, ℕ, zero, suc, ◌+◌, ◌*◌, ◌<◌, ◌≤◌, Bool, true, false, if◌then◌else◌, List, [], ◌∷◌, ◌++◌, map, length, take, slice_index_or, refl, ap, sym, ◌∙◌, arith, add-one, append_assoc, length-append}
use Rattle.std.proofs.lemmas.List.{append-nil, map-append}
use Rattle.std.proofs.lemmas.List.Concat.{flat_map-append}
use Rattle.std.specs.List.{AllByRecursion, flat_map}
use Rattle.text_core.proofs.Laws.{each_map, each_append}
use Rattle.vernacular_tree.specs.Contexts.{counted}

-- numbers in a row are as many as are asked for
pub length-counted : (first count : ℕ) → length (counted first count) ≡ count
length-counted first zero = refl
length-counted first (suc n) = ap suc (length-counted (first + 1) n)

-- numbers in a row, and one more
pub counted_more : (first count : ℕ) → counted first (count + 1) ≡ counted first count ++ (first + count) ∷ []
counted_more first count = rw add-one (more first count)
  where
    more : (first count : ℕ) → counted first (suc count) ≡ counted first count ++ (first + count) ∷ []
    more first zero = let e : first ≡ first + 0 = omega arith in ap (λ (n : ℕ). n ∷ []) e
    more first (suc n) = let e : (first + 1) + n ≡ first + suc n = omega arith in
        ap (λ (xs : List ℕ). first ∷ xs) (more (first + 1) n ∙ ap (λ (k : ℕ). counted (first + 1) n ++ k ∷ []) e)

-- a list to which what belongs to each of the numbers in a row is appended
pub counted_step : {X : Type 0} (F : List ℕ → List X) (f : ℕ → List X) → ((xs : List ℕ) (x : ℕ) → F (xs ++ x ∷ []) ≡ F xs ++ f x)
    → (first n next : ℕ) → next ≡ first + n → (start before after : List X)
    → before ≡ start ++ F (counted first n) → after ≡ before ++ f next → after ≡ start ++ F (counted first (n + 1))
counted_step F f law first n next at start before after so_far is =
    is ∙ ap (λ xs. xs ++ f next) so_far ∙ append_assoc start (F (counted first n)) (f next)
    ∙ ap (λ xs. start ++ xs) (ap (λ k. F (counted first n) ++ f k) at ∙ sym (law (counted first n) (first + n)) ∙ ap F (sym (counted_more first n)))

-- images, one of them more
pub map_more : {X Y : Type 0} (f : X → Y) (xs : List X) (x : X) → map f (xs ++ x ∷ []) ≡ map f xs ++ f x ∷ []
map_more f xs x = map-append f xs (x ∷ [])

-- lists end to end, one of them more
pub flat_map_push : {X Y : Type 0} (f : X → List Y) (xs : List X) (x : X) → flat_map f (xs ++ x ∷ []) ≡ flat_map f xs ++ f x
flat_map_push f xs x = flat_map-append f xs (x ∷ []) ∙ ap (λ ys. flat_map f xs ++ ys) (append-nil (f x))

-- each of the numbers in a row, where it holds of all in that range
pub each_counted : (P : ℕ → Type 0) (first count : ℕ) → ((n : ℕ) → first ≤ n → n < first + count → P n) → AllByRecursion P (counted first count)
each_counted P first zero h = tt
each_counted P first (suc n) h = (h first (omega arith) (omega arith), each_counted P (first + 1) n (λ k low high. h k (omega arith) (omega arith)))

-- each image, where it holds of the image of each
pub each_image : {X Y : Type 0} (P : Y → Type 0) (f : X → Y) (xs : List X) → AllByRecursion (λ x. P (f x)) xs → AllByRecursion P (map f xs)
each_image P f [] h = tt
each_image P f (x ∷ xs) h = (h.0, each_image P f xs h.1)

-- each member of lists end to end
pub each_flat_map : {X Y : Type 0} (P : Y → Type 0) (f : X → List Y) (xs : List X) → AllByRecursion (λ x. AllByRecursion P (f x)) xs → AllByRecursion P (flat_map f xs)
each_flat_map P f [] h = tt
each_flat_map P f (x ∷ xs) h = each_append P (f x) (flat_map f xs) h.0 (each_flat_map P f xs h.1)

-- each member of the list that a test takes
pub each_if : {X : Type 0} (P : X → Type 0) (b : Bool) (xs ys : List X) → AllByRecursion P xs → AllByRecursion P ys → AllByRecursion P (if b then xs else ys)
each_if P true xs ys p q = p
each_if P false xs ys p q = q

-- no member is this one
abbrev pub IsNew : {X : Type 0} → X → List X → Type 0
IsNew x ys = AllByRecursion (λ y. y ≡ x → ⊥) ys

-- no two members are the same
abbrev pub AreApart : {X : Type 0} → List X → Type 0
AreApart [] = Unit {0}
AreApart (x ∷ xs) = IsNew x xs × AreApart xs

-- the members of two lists, where none of the first is in the second
pub apart_append : {X : Type 0} (xs ys : List X) → AreApart xs → AreApart ys → AllByRecursion (λ x. IsNew x ys) xs → AreApart (xs ++ ys)
apart_append [] ys a b c = b
apart_append (x ∷ xs) ys a b c = (each_append (λ y. y ≡ x → ⊥) xs ys a.0 c.0, apart_append xs ys a.1 b c.1)

-- the member with this number, where each has P
pub each_item : {X : Type 0} (P : X → Type 0) (xs : List X) (i : ℕ) (d : X) → i < length xs → AllByRecursion P xs → P (slice_index_or xs i d)
each_item P [] i d within h = absurd (omega arith)
each_item P (x ∷ xs) zero d within h = h.0
each_item P (x ∷ xs) (suc i) d within h = each_item P xs i d (omega arith) h.1

-- a member is not among those in front of it
pub apart_take : {X : Type 0} (xs : List X) (i : ℕ) (d : X) → AreApart xs → i < length xs → IsNew (slice_index_or xs i d) (take i xs)
apart_take [] i d apart within = absurd (omega arith)
apart_take (x ∷ xs) zero d apart within = tt
apart_take (x ∷ xs) (suc i) d apart within =
    (λ same. each_item (λ y. y ≡ x → ⊥) xs i d (omega arith) apart.0 (sym same), apart_take xs i d apart.1 (omega arith))

-- the list that a test takes
pub apart_if : {X : Type 0} (b : Bool) (xs ys : List X) → AreApart xs → AreApart ys → AreApart (if b then xs else ys)
apart_if true xs ys p q = p
apart_if false xs ys p q = q

-- a member with a mark below a bound is none with a mark from there on
differ_by : {X : Type 0} (mark : X → ℕ) (bound : ℕ) (x y : X) → mark x < bound → bound ≤ mark y → y ≡ x → ⊥
differ_by mark bound x y below above same = let e : mark y ≡ mark x = ap mark same in absurd (omega arith)

-- members with marks below a bound are not among those with marks from there on
pub new_by : {X : Type 0} (mark : X → ℕ) (bound : ℕ) (xs ys : List X)
    → AllByRecursion (λ x. mark x < bound) xs → AllByRecursion (λ y. bound ≤ mark y) ys → AllByRecursion (λ x. IsNew x ys) xs
new_by mark bound xs ys low high = each_map (λ x below. each_map (λ y above. differ_by mark bound x y below above) ys high) xs low

-- images of numbers in a row, where each has its number as mark
pub apart_images : {X : Type 0} (mark : X → ℕ) (f : ℕ → X) → ((n : ℕ) → mark (f n) ≡ n) → (first count : ℕ) → AreApart (map f (counted first count))
apart_images mark f marks first zero = tt
apart_images mark f marks first (suc n) = (
  each_image (λ y. y ≡ f first → ⊥) f (counted (first + 1) n) (each_counted (λ k. f k ≡ f first → ⊥) (first + 1) n (λ k low high same.
      let e : mark (f k) ≡ mark (f first) = ap mark same in let a = marks k in let b = marks first in absurd (omega arith))),
  apart_images mark f marks (first + 1) n,
)

-- lists for numbers in a row end to end, where each member has its list's number as mark
pub apart_lists : {X : Type 0} (mark : X → ℕ) (f : ℕ → List X) → ((n : ℕ) → AllByRecursion (λ x. mark x ≡ n) (f n)) → ((n : ℕ) → AreApart (f n))
    → (first count : ℕ) → AreApart (flat_map f (counted first count))
apart_lists mark f marks apart first zero = tt
apart_lists mark f marks apart first (suc n) = apart_append (f first) (flat_map f (counted (first + 1) n))
    (apart first) (apart_lists mark f marks apart (first + 1) n)
    (new_by mark (first + 1) (f first) (flat_map f (counted (first + 1) n))
    (each_map (λ x is. let e : mark x ≡ first = is in let goal : mark x < first + 1 = omega arith in goal) (f first) (marks first))
    (each_flat_map (λ y. first + 1 ≤ mark y) f (counted (first + 1) n) (each_counted (λ k. AllByRecursion (λ y. first + 1 ≤ mark y) (f k)) (first + 1) n
    (λ k low high. each_map (λ y is. let e : mark y ≡ k = is in let goal : first + 1 ≤ mark y = omega arith in goal) (f k) (marks k)))))

-- the length of the list that a test takes
pub length-if-le : {X : Type 0} (b : Bool) (xs ys : List X) (most : ℕ) → length xs ≤ most → length ys ≤ most → length (if b then xs else ys) ≤ most
length-if-le true xs ys most p q = p
length-if-le false xs ys most p q = q

-- the length of lists end to end that have two members at most
pub length-pairs-le : {X : Type 0} (f : ℕ → List X) → ((n : ℕ) → length (f n) ≤ 2)
    → (first count : ℕ) → length (flat_map f (counted first count)) ≤ 2 * count
length-pairs-le f few first zero = omega arith
length-pairs-le f few first (suc n) =
    let here = few first in
    let rest = length-pairs-le f few (first + 1) n in
    let both = length-append (f first) (flat_map f (counted (first + 1) n)) in
    omega arith
