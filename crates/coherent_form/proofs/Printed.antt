-- The names with which elements are printed, and that they differ.
use Rattle.std.proofs.Common.{◌≡◌, ℕ, zero, suc, ◌+◌, ◌^◌, ◌<◌, ◌≤◌, ◌%◌, ◌⊎◌, inl, inr, nat_lt, max, if◌then◌else◌, Bool, true, false, List, [], ◌∷◌, ◌++◌, length, take, slice_get, Some, refl, ap, sym, ◌∙◌, arith, add-one, length-append}
use Rattle.std.proofs.lemmas.Bool.Decides.{nat_tests}
use Rattle.std.proofs.lemmas.Fmt.{decimal_by_steps, decimal_injective}
use Rattle.std.specs.Fmt.{decimal}
use Rattle.text_core.specs.Names.{Text}
use Rattle.text_core.specs.NameTexts.{IsPrintable, IsNameText}
use Rattle.text_core.specs.Numbered.{text_or_empty}
use Rattle.text_core.proofs.Laws.{take_next}
use Rattle.signature.specs.Numbers.{AreDistinctConstants}
use Rattle.coherent_form.specs.ElementNames.{leading, most_leading, letters, prefix, element_name}
use Rattle.coherent_form.proofs.Labelled.{names_one}

-- ---- texts that are names

-- printable bytes behind printable bytes
printable_append : (xs ys : Text) → IsPrintable xs → IsPrintable ys → IsPrintable (xs ++ ys)
printable_append [] ys h k = k
printable_append (x ∷ xs) ys h k = (h.0, h.1, printable_append xs ys h.2 k)

-- printable bytes are a name where there is one
printable_name : (xs : Text) → 0 < length xs → IsPrintable xs → IsNameText xs
printable_name [] some h = absurd (omega arith)
printable_name (x ∷ xs) some h = h

-- the digits of a number are printable, and there is one
decimal_printable : (n : ℕ) → n < 2 ^ 64 → (0 < length (decimal n)) × IsPrintable (decimal n)
decimal_printable = decimal_by_steps (λ m ds. (0 < length ds) × IsPrintable ds)
    (λ m small. (omega arith, (omega arith, omega arith, tt)))
    (λ m ds large h. (omega (arith, length-append ds ((48 + m % 10) ∷ [])), printable_append ds ((48 + m % 10) ∷ []) h.1 (omega arith, omega arith, tt)))

-- printable bytes and a number are a name
pub numbered_name : (xs : Text) (n : ℕ) → IsPrintable xs → n < 2 ^ 64 → IsNameText (xs ++ decimal n)
numbered_name xs n h small =
    let digits = decimal_printable n small in let some = digits.0 in
    printable_name (xs ++ decimal n) (omega (arith, length-append xs (decimal n))) (printable_append xs (decimal n) h digits.1)

-- the letters are printable
pub letters_printable : (n : ℕ) → IsPrintable (letters n)
letters_printable zero = tt
letters_printable (suc n) = (omega arith, omega arith, letters_printable n)

-- ---- letters

-- one letter more, behind the others
pub letters_more : (n : ℕ) → letters n ++ 119 ∷ [] ≡ letters (n + 1)
letters_more n = rw add-one (go n)
  where
    go : (n : ℕ) → letters n ++ 119 ∷ [] ≡ letters (suc n)
    go zero = refl
    go (suc n) = ap (λ xs. 119 ∷ xs) (go n)

-- letters in front are counted
leading_letters : (n : ℕ) (xs : Text) → leading (letters n ++ xs) ≡ n + leading xs
leading_letters zero xs = omega arith
leading_letters (suc n) xs = let rest = leading_letters n xs in omega arith

-- letters in front may be left out
letters_same : (n : ℕ) (xs ys : Text) → letters n ++ xs ≡ letters n ++ ys → xs ≡ ys
letters_same zero xs ys e = e
letters_same (suc n) xs ys e = letters_same n xs ys (let rest : letters n ++ xs ≡ letters n ++ ys = cc in rest)

-- the most letters of names with one more
most_last : (names : List Text) (name : Text) → most_leading (names ++ name ∷ []) ≡ max (most_leading names) (leading name)
most_last [] name = omega arith
most_last (x ∷ names) name = let rest = most_last names name in omega arith

-- and of the first names
pub most_next : (names : List Text) (i : ℕ) (name : Text) (most count new : ℕ) → slice_get names i ≡ Some name → most ≡ most_leading (take i names) → count ≡ leading name
    → ((most < count) × (new ≡ count)) ⊎ ((count ≤ most) × (new ≡ most)) → new ≡ most_leading (take (i + 1) names)
most_next names i name most count new at so_far counted by =
    let front : most_leading (take (i + 1) names) ≡ most_leading (take i names ++ name ∷ []) = ap most_leading (take_next names i name at) in
    let last = most_last (take i names) name in
    elim by [ inl a ↦ (let more = a.0 in let is = a.1 in omega arith) | inr b ↦ (let less = b.0 in let is = b.1 in omega arith) ]

-- no name begins with more
leading_most : (names : List Text) (n : ℕ) → leading (text_or_empty (slice_get names n)) ≤ most_leading names
leading_most [] n = omega arith
leading_most (x ∷ names) zero = omega arith
leading_most (x ∷ names) (suc n) = let rest = leading_most names n in omega arith

-- ---- printed names

-- an element is a constant, or has a number
named_or_numbered : (constants : List Text) (a : ℕ) → ((a < length constants) × (element_name constants a ≡ text_or_empty (slice_get constants a)))
    ⊎ ((length constants ≤ a) × (element_name constants a ≡ prefix constants ++ decimal a))
named_or_numbered constants a = go (nat_lt a (length constants)) refl
  where
    go : (b : Bool) → nat_lt a (length constants) ≡ b
        → ((a < length constants) × ((if b then text_or_empty (slice_get constants a) else prefix constants ++ decimal a) ≡ text_or_empty (slice_get constants a)))
        ⊎ ((length constants ≤ a) × ((if b then text_or_empty (slice_get constants a) else prefix constants ++ decimal a) ≡ prefix constants ++ decimal a))
    go true e = inl ((let below : a < length constants = grind (arith, nat_tests) in below), refl)
    go false e = inr ((let behind : length constants ≤ a = grind (arith, nat_tests) in behind), refl)

-- no constant has the name of a numbered element
constant_apart : (constants : List Text) (n : ℕ) (digits : Text) → text_or_empty (slice_get constants n) ≡ prefix constants ++ digits → ⊥
constant_apart constants n digits same =
    let most = leading_most constants n in
    let count : leading (text_or_empty (slice_get constants n)) ≡ most_leading constants + 1 + leading digits
    = ap leading same ∙ leading_letters (most_leading constants + 1) digits in omega arith

-- the printed names of elements differ
pub element_names_differ : (constants : List Text) (a b : ℕ) → AreDistinctConstants constants → a < 2 ^ 64 → b < 2 ^ 64
    → element_name constants a ≡ element_name constants b → a ≡ b
element_names_differ constants a b distinct small also same =
    elim (named_or_numbered constants a) [
      | inl c ↦ elim (named_or_numbered constants b) [
        | inl d ↦ names_one constants distinct a b c.0 d.0 (sym c.1 ∙ same ∙ d.1)
        | inr d ↦ absurd (constant_apart constants a (decimal b) (sym c.1 ∙ same ∙ d.1))
      ]
      | inr c ↦ elim (named_or_numbered constants b) [
        | inl d ↦ absurd (constant_apart constants b (decimal a) (sym d.1 ∙ sym same ∙ c.1))
        | inr d ↦ decimal_injective a b small also (letters_same (most_leading constants + 1) (decimal a) (decimal b) (sym c.1 ∙ same ∙ d.1))
      ]
    ]
