-- How many bytes two texts have in common at their fronts.
use Rattle.std.specs.Prelude.{ℕ, ◌≡◌, ◌+◌, ◌<◌, ◌≤◌, ◌==◌, ◌⊎◌, Bool, true, false, [], ◌∷◌, ◌++◌, length, drop, slice_index_or}
use Rattle.std.proofs.Common.{refl, sym, ◌∙◌, ap, subst, arith, cond, zero, suc, inl, inr}
use Rattle.text_core.specs.Names.{Text}
use Rattle.text_core.proofs.Laws.{number_same}
use Rattle.isar_text.specs.Scripts.{common}

-- a byte is the same as itself
same_byte : (b : ℕ) → (b == b) ≡ true
same_byte b = grind arith

-- a text in front of another is in common with it whole
pub common_front : (front rest : Text) → common front (front ++ rest) ≡ length front
common_front [] rest = refl
common_front (b ∷ bs) rest =
    let more = common_front bs rest in
    ap (λ (same : Bool). cond same (1 + common bs (bs ++ rest)) 0) (same_byte b) ∙ (omega (arith, more))

-- not more is in common than either has
pub common_most : (first second : Text) → (common first second ≤ length first) × (common first second ≤ length second)
common_most [] second = (omega arith, omega arith)
common_most (b ∷ bs) [] = (omega arith, omega arith)
common_most (b ∷ bs) (c ∷ cs) = by_test (b == c) (common_most bs cs)
  where
    by_test : (same : Bool) → (common bs cs ≤ length bs) × (common bs cs ≤ length cs) →
        (cond same (1 + common bs cs) 0 ≤ length (b ∷ bs)) × (cond same (1 + common bs cs) 0 ≤ length (c ∷ cs))
    by_test true (few, short) = (omega (arith, few), omega (arith, short))
    by_test false rest = (omega arith, omega arith)

-- a text that is in common whole is the front
pub front_whole : (front bytes : Text) → length front ≤ common front bytes → bytes ≡ front ++ drop (length front) bytes
front_whole [] bytes h = refl
front_whole (b ∷ bs) [] h = absurd (omega (arith, h))
front_whole (b ∷ bs) (c ∷ cs) h = by_test (b == c) refl h (front_whole bs cs)
  where
    by_test : (same : Bool) → (b == c) ≡ same → length (b ∷ bs) ≤ cond same (1 + common bs cs) 0 →
        (length bs ≤ common bs cs → cs ≡ bs ++ drop (length bs) cs) → c ∷ cs ≡ (b ∷ bs) ++ drop (length (b ∷ bs)) (c ∷ cs)
    by_test true is h later =
        let one : b ≡ c = number_same b c is in
        let rest : cs ≡ bs ++ drop (length bs) cs = later (omega (arith, h)) in
        ap (λ (n : ℕ). n ∷ cs) (sym one) ∙ ap (λ (ns : Text). b ∷ ns) rest
    by_test false is h later = absurd (omega (arith, h))

-- where both have the same byte at a place, one more is in common there than behind it
pub common_next : (first second : Text) (n more : ℕ) → more ≡ n + 1 → n < length first → n < length second →
    slice_index_or first n 0 ≡ slice_index_or second n 0 →
    common (drop n first) (drop n second) ≡ 1 + common (drop more first) (drop more second)
common_next [] second n more next a b e = absurd (omega (arith, a))
common_next (x ∷ xs) [] n more next a b e = absurd (omega (arith, b))
common_next (x ∷ xs) (y ∷ ys) zero zero next a b e = absurd (omega (arith, next))
common_next (x ∷ xs) (y ∷ ys) zero (suc zero) next a b e =
    let same : x ≡ y = e in
    subst (λ (z : ℕ). cond (x == z) (1 + common xs ys) 0 ≡ 1 + common xs ys) same
    (ap (λ (test : Bool). cond test (1 + common xs ys) 0) (same_byte x))
common_next (x ∷ xs) (y ∷ ys) zero (suc (suc more)) next a b e = absurd (omega (arith, next))
common_next (x ∷ xs) (y ∷ ys) (suc n) zero next a b e = absurd (omega (arith, next))
common_next (x ∷ xs) (y ∷ ys) (suc n) (suc more) next a b e =
    common_next xs ys n more (omega (arith, next)) (omega (arith, a)) (omega (arith, b)) e

-- where they differ at a place, none is in common there
pub common_differ : (first second : Text) (n : ℕ) → n < length first → n < length second →
    (slice_index_or first n 0 ≡ slice_index_or second n 0 → ⊥) → common (drop n first) (drop n second) ≡ 0
common_differ [] second n a b e = absurd (omega (arith, a))
common_differ (x ∷ xs) [] n a b e = absurd (omega (arith, b))
common_differ (x ∷ xs) (y ∷ ys) zero a b e = by_test (x == y) refl
  where
    by_test : (same : Bool) → (x == y) ≡ same → cond same (1 + common xs ys) 0 ≡ 0
    by_test true is = absurd (e (number_same x y is))
    by_test false is = refl
common_differ (x ∷ xs) (y ∷ ys) (suc n) a b e = common_differ xs ys n (omega (arith, a)) (omega (arith, b)) e

-- nothing is in common behind the end of either
pub common_past : (first second : Text) (n : ℕ) → (length first ≤ n) ⊎ (length second ≤ n) → common (drop n first) (drop n second) ≡ 0
common_past [] second zero past = refl
common_past [] second (suc n) past = refl
common_past (x ∷ xs) [] zero past = refl
common_past (x ∷ xs) (y ∷ ys) zero past = absurd (elim past [ inl h ↦ omega (arith, h) | inr h ↦ omega (arith, h) ])
common_past (x ∷ xs) [] (suc n) past = nothing_common (drop n xs)
  where
    nothing_common : (text : Text) → common text [] ≡ 0
    nothing_common [] = refl
    nothing_common (b ∷ bs) = refl
common_past (x ∷ xs) (y ∷ ys) (suc n) past =
    common_past xs ys n (elim past [ inl h ↦ inl (omega (arith, h)) | inr h ↦ inr (omega (arith, h)) ])

-- a text is at the front of bytes up to a place
pub record IsFront (front bytes : Text) (at : ℕ) : Type 0 where
  pub whole : at ≡ length front
  pub within : at ≤ length bytes
  pub rest : bytes ≡ front ++ drop at bytes

-- a text that is in common whole is at the front
pub front_is : (text front bytes : Text) (at : ℕ) → text ≡ front → at ≡ common text bytes → length text ≤ at → IsFront front bytes at
front_is text front bytes at same e long =
    let (few, short) = common_most text bytes in
    let whole : at ≡ length text = omega (arith, e, few, long) in
    let rest : bytes ≡ text ++ drop (length text) bytes = front_whole text bytes (omega (arith, e, long)) in
    subst (λ (found : Text). IsFront found bytes at) same (record {
      whole = whole;
      within = omega (arith, e, short);
      rest = subst (λ (n : ℕ). bytes ≡ text ++ drop n bytes) (sym whole) rest;
    })

-- not more is in common than there are bytes
pub common_short : (text bytes : Text) (at : ℕ) → at ≡ common text bytes → at ≤ length bytes
common_short text bytes at e = let (few, short) = common_most text bytes in omega (arith, e, short)
