-- What equal keys say, and variables of keys.
use Rattle.std.proofs.Common.{◌≡◌, ℕ, ◌==◌, ◌⊎◌, inl, inr, Bool, true, false, not, ◌&&◌, List, [], ◌∷◌, ◌++◌, refl, ap}
use Rattle.std.specs.Prelude.{slice_get, unwrap_or, if◌then◌else◌}
use Rattle.std.specs.Option.{option_map}
use Rattle.std.specs.List.{list_all}
use Rattle.std.specs.Cmp.Lexicographic.{pointwise, bytes_decides}
use Rattle.std.proofs.Math.Bool.{beq}
use Rattle.text_core.proofs.Laws.{get_front, and_both, number_same}
use Rattle.finite_model.specs.Connectives.{are_same}
use Rattle.model_search.specs.Candidates.{Candidate}
use Rattle.model_search.specs.Keys.{ground_true, key_true, Agrees, AllTrue}
use Rattle.model_search.specs.Sheets.{Drawn, Covers}
use Rattle.model_search.specs.declared.key.Ground.{Ground}
use Rattle.model_search.specs.declared.key.Key.{Key}
use Rattle.model_search.specs.declared.key.Key.TheVariants.{Fact, Place, All}
use Rattle.model_search.specs.contracts.key.GroundPartialEq.TheImpl as ground_eq
use Rattle.model_search.specs.contracts.key.KeyPartialEq.TheImpl as key_eq

-- variables that agree with more keys agree with the first
pub agrees_front : (sigma : ℕ → Bool) (c : Candidate) (keys more : List Key) → Agrees sigma c (keys ++ more) → Agrees sigma c keys
agrees_front sigma c keys more h = λ v key at. h v key (get_front keys more v key at)

-- so they do where a key is inserted
pub agrees_inserted : (sigma : ℕ → Bool) (c : Candidate) (there : Bool) (keys : List Key) (key : Key)
    → Agrees sigma c (if there then keys else keys ++ key ∷ []) → Agrees sigma c keys
agrees_inserted sigma c true keys key h = h
agrees_inserted sigma c false keys key h = agrees_front sigma c keys (key ∷ []) h

-- truth values that are the same
pub same_true : (a b : Bool) → a ≡ b → are_same a b ≡ true
same_true true true e = refl
same_true true false e = absurd (cc)
same_true false true e = absurd (cc)
same_true false false e = refl

pub same_back : (a b : Bool) → are_same a b ≡ true → a ≡ b
same_back true true e = refl
same_back true false e = absurd (cc)
same_back false true e = absurd (cc)
same_back false false e = refl

-- an atom is true where its opposite is not
pub opposite_or : (a b : Bool) → (are_same a b ≡ true) ⊎ (are_same a (not b) ≡ true)
opposite_or true true = inl refl
opposite_or true false = inr refl
opposite_or false true = inr refl
opposite_or false false = inl refl

-- a truth value that is to be compared with one
pub same_positive : (a b : Bool) → are_same a b ≡ true → are_same a true ≡ b
same_positive true true e = refl
same_positive true false e = absurd (cc)
same_positive false true e = absurd (cc)
same_positive false false e = refl

-- atoms that are all true
pub all_true : (c : Candidate) (gs : List Ground) → AllTrue c gs → list_all (ground_true c) gs ≡ true
all_true c [] h = refl
all_true c (g ∷ gs) h = let first = h.0 in let rest = all_true c gs h.1 in cc

pub true_all : (c : Candidate) (gs : List Ground) → list_all (ground_true c) gs ≡ true → AllTrue c gs
true_all c [] e = tt
true_all c (g ∷ gs) e = let both = and_both (ground_true c g) (list_all (ground_true c) gs) e in (both.0, true_all c gs both.1)

-- a constant stands for an element, or the clause is true
pub placed_or : (c : Candidate) (s : Drawn) (k e : ℕ) → ((c.place k == e) ≡ false → Covers c s) → (c.place k ≡ e) ⊎ Covers c s
placed_or c s k e h = by (c.place k == e) refl
  where
    by : (b : Bool) → (c.place k == e) ≡ b → (c.place k ≡ e) ⊎ Covers c s
    by true same = inl (number_same (c.place k) e same)
    by false other = inr (h other)

-- truth values that pass the test of equality are the same
bool_same : (a b : Bool) → beq a b ≡ true → a ≡ b
bool_same true true e = refl
bool_same true false e = absurd (cc)
bool_same false true e = absurd (cc)
bool_same false false e = refl

-- so are atoms
ground_same : (x y : Ground) → ground_eq.eq-value.it x y ≡ true → x ≡ y
ground_same x y h =
    let (positive, rest) = and_both (beq x.positive y.positive) _ h in
    let (symbol, elements) = and_both (x.symbol == y.symbol) _ rest in
    let p = bool_same x.positive y.positive positive in
    let s = number_same x.symbol y.symbol symbol in
    let e : x.elements ≡ y.elements = (bytes_decides x.elements y.elements).0 elements in
    λ i. record { positive = p i; symbol = s i; elements = e i }

-- so atoms of lists that pass it are true together
grounds_same : (c : Candidate) (xs ys : List Ground) → pointwise ground_eq.eq-value.it xs ys ≡ true → list_all (ground_true c) xs ≡ list_all (ground_true c) ys
grounds_same c [] [] h = refl
grounds_same c [] (y ∷ ys) h = absurd (cc)
grounds_same c (x ∷ xs) [] h = absurd (cc)
grounds_same c (x ∷ xs) (y ∷ ys) h =
    let (first, rest) = and_both (ground_eq.eq-value.it x y) (pointwise ground_eq.eq-value.it xs ys) h in
    let same = ground_same x y first in
    let others = grounds_same c xs ys rest in
    λ i. ground_true c (same i) && others i

-- so keys that pass it say the same
pub said_same : (c : Candidate) (x y : Key) → key_eq.eq-value.it x y ≡ true → key_true c x ≡ key_true c y
said_same c (Fact g) (Fact h) e = ap (ground_true c) (ground_same g h e)
said_same c (Place k a) (Place l b) e =
    let (constant, element) = and_both (k == l) (a == b) e in
    let p = number_same k l constant in
    let q = number_same a b element in
    λ i. c.place (p i) == q i
said_same c (All gs) (All hs) e = grounds_same c gs.items hs.items e
said_same c x y h = absurd (let e : false ≡ true = h in cc)

-- each variable as its key says
abbrev pub said : Candidate → List Key → ℕ → Bool
said c keys v = unwrap_or (option_map (key_true c) (slice_get keys v)) false

pub said_agrees : (c : Candidate) (keys : List Key) → Agrees (said c keys) c keys
said_agrees c keys v key at = λ i. unwrap_or (option_map (key_true c) (at i)) false
