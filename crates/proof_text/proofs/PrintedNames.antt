-- The printed names of elements: each is told by its name, and the names of new elements are new.
use Rattle.std.proofs.Common.{◌≡◌, ℕ, zero, suc, ◌+◌, ◌-◌, ◌<◌, ◌≤◌, max, Bool, true, false, not, cond, if◌then◌else◌, nat_lt, List, [], ◌∷◌, ◌++◌, map, length, slice_get, Some, None, inl, inr, refl, ap, sym, ◌∙◌, subst, arith, append_assoc, length-append}
use Rattle.std.proofs.lemmas.Bool.{lt-ltb}
use Rattle.std.proofs.lemmas.Fmt.{decimal_digit}
use Rattle.std.proofs.lemmas.List.{map-append, length-map}
use Rattle.std.proofs.lemmas.Slice.Eq.{bytes_eq-Decides}
use Rattle.std.specs.List.{AllByRecursion, position_or_len}
use Rattle.std.specs.Fmt.{decimal}
use Rattle.std.specs.Str.{bytes_eq}
use Rattle.text_core.specs.Names.{Text}
use Rattle.text_core.specs.Numbered.{text_or_empty}
use Rattle.text_core.specs.Lists.{IsAmong}
use Rattle.text_core.proofs.Laws.{get_behind, not_passes}
use Rattle.vernacular_tree.specs.Contexts.{counted}
use Rattle.vernacular_tree.proofs.Laws.{counted_length}
use Rattle.coherent_form.specs.ElementNames.{element_name, prefix}
use Rattle.proof_text.specs.Branches.{element_of, or_single, AreNew}

-- numbers in a row, and further ones behind them
pub counted_append : (first m n : ℕ) → counted first (m + n) ≡ counted first m ++ counted (first + m) n
counted_append first zero n =
    let none : zero + n ≡ n = omega arith in
    let same : first + zero ≡ first = omega arith in
    ap (counted first) none ∙ ap (λ (k : ℕ). counted k n) (sym same)
counted_append first (suc m) n =
    let more : suc m + n ≡ suc (m + n) = omega arith in
    let same : first + 1 + m ≡ first + suc m = omega arith in
    ap (counted first) more ∙ ap (λ (ks : List ℕ). first ∷ ks) (counted_append (first + 1) m n)
    ∙ ap (λ (k : ℕ). first ∷ counted (first + 1) m ++ counted k n) same

-- the images of numbers in a row, and those of further ones behind them
pub names_append : (f : ℕ → Text) (m n : ℕ) → map f (counted 0 (m + n)) ≡ map f (counted 0 m) ++ map f (counted m n)
names_append f m n =
    let same : 0 + m ≡ m = omega arith in
    ap (map f) (counted_append 0 m n) ∙ map-append f (counted 0 m) (counted (0 + m) n)
    ∙ ap (λ (k : ℕ). map f (counted 0 m) ++ map f (counted k n)) same

-- a test that passes ends the search
found_first : (b : Bool) (n : ℕ) → b ≡ true → cond (not b) n 0 ≡ 0
found_first b n is = ap (λ (v : Bool). cond (not v) n 0) is

-- a test that fails lets it go on
found_later : (b : Bool) (n : ℕ) → b ≡ false → cond (not b) n 0 ≡ n
found_later b n is = ap (λ (v : Bool). cond (not v) n 0) is

-- names of numbers below a bound that differ where the numbers do
module _ (f : ℕ → Text) (most : ℕ) (differ : (a b : ℕ) → a < most → b < most → f a ≡ f b → a ≡ b) where
  -- the place of a name among the names of numbers in a row
  place_named : (first n i e : ℕ) → first + n ≤ most → e ≡ first + i → i < n → position_or_len (bytes_eq (f e)) (map f (counted first n)) ≡ i
  place_named first zero i e fit is below = absurd (omega arith)
  place_named first (suc n) zero e fit is below =
      let same : e ≡ first = omega arith in
      found_first (bytes_eq (f e) (f first)) (1 + position_or_len (bytes_eq (f e)) (map f (counted (first + 1) n)))
      ((bytes_eq-Decides (f e) (f first)).1 (ap f same))
  place_named first (suc n) (suc i) e fit is below =
      let rest : position_or_len (bytes_eq (f e)) (map f (counted (first + 1) n)) ≡ i
      = place_named (first + 1) n i e (omega arith) (omega arith) (omega arith) in
      let other : bytes_eq (f e) (f first) ≡ false = not_passes (bytes_eq (f e) (f first))
      (λ passes. let same : e ≡ first = differ e first (omega arith) (omega arith) ((bytes_eq-Decides (f e) (f first)).0 passes) in omega arith) in
      found_later (bytes_eq (f e) (f first)) (1 + position_or_len (bytes_eq (f e)) (map f (counted (first + 1) n))) other
      ∙ (let more : 1 + position_or_len (bytes_eq (f e)) (map f (counted (first + 1) n)) ≡ suc i = omega arith in more)

  -- the element with a name is the one that it names
  pub element_named : (n e : ℕ) → n ≤ most → e < n → element_of (map f (counted 0 n)) (f e) ≡ Some e
  element_named n e fit below =
      let place : position_or_len (bytes_eq (f e)) (map f (counted 0 n)) ≡ e = place_named 0 n e e (omega arith) (omega arith) below in
      let long : length (map f (counted 0 n)) ≡ n = length-map (counted 0 n) f ∙ counted_length 0 n in
      let there : nat_lt e n ≡ true = lt-ltb e n below in
      (λ i. cond (nat_lt (place i) (long i)) (Some (place i)) None) ∙ ap (λ (b : Bool). cond b (Some e) None) there

  -- the elements with names are those that they name
  pub elements_named : (n : ℕ) (es : List ℕ) → n ≤ most → AllByRecursion (λ e. e < n) es → map (element_of (map f (counted 0 n))) (map f es) ≡ map Some es
  elements_named n [] fit h = refl
  elements_named n (e ∷ es) fit h =
      let rest = elements_named n es fit h.1 in
      let first = element_named n e fit h.0 in cc

  -- the name of a greater number is none of those before
  none_named : (first n e : ℕ) → first + n ≤ e → e < most → IsAmong (f e) (map f (counted first n)) → ⊥
  none_named first zero e past fit among = among
  none_named first (suc n) e past fit (inl same) = let equal : first ≡ e = differ first e (omega arith) fit same in omega arith
  none_named first (suc n) e past fit (inr among) = none_named (first + 1) n e (omega arith) fit among

  -- the names of further numbers are new
  pub names_new : (n k : ℕ) → n + k ≤ most → AreNew (map f (counted 0 n)) (map f (counted n k))
  names_new n zero fit = tt
  names_new n (suc k) fit =
      let longer : map f (counted 0 (n + 1)) ≡ map f (counted 0 n) ++ f n ∷ [] = names_append f n 1 in (
        none_named 0 n n (omega arith) (omega arith),
        subst (λ (names : List Text). AreNew names (map f (counted (n + 1) k))) longer (names_new (n + 1) k (omega arith)),
      )

-- a constant is printed by its name
constant_printed : (all : List Text) (n : ℕ) (name : Text) → n < length all → slice_get all n ≡ Some name → element_name all n ≡ name
constant_printed all n name below there =
    ap (λ (b : Bool). if b then text_or_empty (slice_get all n) else prefix all ++ decimal n) (lt-ltb n (length all) below)
    ∙ ap text_or_empty there

-- constants are printed by their names
constants_printed : (all front back : List Text) → all ≡ front ++ back → map (element_name all) (counted (length front) (length back)) ≡ back
constants_printed all front [] is = refl
constants_printed all front (name ∷ back) is =
    let there : slice_get all (length front) ≡ Some name = rw is (get_behind front name back) in
    let long : length front < length all = omega (arith, ap length is, length-append front (name ∷ back)) in
    let first : element_name all (length front) ≡ name = constant_printed all (length front) name long there in
    let longer : length (front ++ name ∷ []) ≡ length front + 1 = length-append front (name ∷ []) in
    let rest : map (element_name all) (counted (length (front ++ name ∷ [])) (length back)) ≡ back
    = constants_printed all (front ++ name ∷ []) back (is ∙ sym (append_assoc front (name ∷ []) back)) in
    let rest2 : map (element_name all) (counted (length front + 1) (length back)) ≡ back
    = subst (λ (k : ℕ). map (element_name all) (counted k (length back)) ≡ back) longer rest in
    ap (λ (x : Text). x ∷ map (element_name all) (counted (length front + 1) (length back))) first
    ∙ ap (λ (xs : List Text). name ∷ xs) rest2

-- the names of the constants are the first printed names
pub constants_first : (constants : List Text) → map (element_name constants) (counted 0 (length constants)) ≡ constants
constants_first constants = constants_printed constants [] constants refl

-- the constants and the names of so many parameters
several_named : (constants : List Text) (k n : ℕ) → n ≡ length constants + k
    → constants ++ map (element_name constants) (counted (n - k) k) ≡ map (element_name constants) (counted 0 n)
several_named constants k n is =
    let from : n - k ≡ length constants = omega arith in
    ap (λ (m : ℕ). constants ++ map (element_name constants) (counted m k)) from
    ∙ ap (λ (names : List Text). names ++ map (element_name constants) (counted (length constants) k)) (sym (constants_first constants))
    ∙ sym (names_append (element_name constants) (length constants) k)
    ∙ ap (λ (m : ℕ). map (element_name constants) (counted 0 m)) (sym is)

-- the names of the start elements are their printed names: the constants and those of the parameters
pub start_named : (constants : List Text) (k : ℕ) → or_single (constants ++ map (element_name constants) (counted (max 1 (length constants + k) - k) k))
    ≡ map (element_name constants) (counted 0 (max 1 (length constants + k)))
start_named [] zero = ap (λ (digits : Text). (119 ∷ digits) ∷ []) (sym (decimal_digit 0 (omega arith)))
start_named [] (suc k) = several_named [] (suc k) (max 1 (length {A = Text} [] + suc k)) (omega arith)
start_named (name ∷ constants) k =
    several_named (name ∷ constants) k (max 1 (length (name ∷ constants) + k)) (omega arith)

-- the names of the parameters are new behind the constants
pub parameters_new : (constants : List Text) (most : ℕ) → ((a b : ℕ) → a < most → b < most → element_name constants a ≡ element_name constants b → a ≡ b)
    → (k : ℕ) → length constants + k ≤ most → AreNew constants (map (element_name constants) (counted (max 1 (length constants + k) - k) k))
parameters_new constants most differ zero fit = tt
parameters_new constants most differ (suc k) fit =
    let from : max 1 (length constants + suc k) - suc k ≡ length constants = omega arith in
    subst (λ (m : ℕ). AreNew constants (map (element_name constants) (counted m (suc k)))) (sym from)
    (subst (λ (names : List Text). AreNew names (map (element_name constants) (counted (length constants) (suc k)))) (constants_first constants)
    (names_new (element_name constants) most differ (length constants) (suc k) fit))
