-- The number that digits write, read from left to right.
use Rattle.std.specs.Prelude.{nat_le, slice_index, if◌then◌else◌}
use Rattle.std.proofs.Common.{◌≡◌, ℕ, zero, suc, ◌+◌, ◌*◌, ◌-◌, ◌≤◌, ◌<◌, Bool, true, false, [], ◌∷◌, length, drop, Some, None, refl, sym, ◌∙◌, ap, arith}
use Rattle.text_core.specs.Names.{Text}
use Rattle.model_text.specs.Numbers.{number_after, number_in, number_next, most_number}

-- further digits make no smaller number
after_grows : (n : ℕ) (bs : Text) → n ≤ number_after n bs
after_grows n [] = omega arith
after_grows n (b ∷ bs) = let more = after_grows (n * 10 + (b - 48)) bs in omega (arith, more)

-- nothing is left behind the last digit
drop_past : (bs : Text) (i : ℕ) → length bs ≤ i → drop i bs ≡ []
drop_past [] zero h = refl
drop_past [] (suc i) h = refl
drop_past (b ∷ bs) zero h = absurd (omega arith)
drop_past (b ∷ bs) (suc i) h = drop_past bs i (omega (arith, h))

-- what is left begins with the digit of its number
drop_here : (bs : Text) (i : ℕ) → i < length bs → drop i bs ≡ slice_index bs i ∷ drop (suc i) bs
drop_here [] i h = absurd (omega arith)
drop_here (b ∷ bs) zero h = refl
drop_here (b ∷ bs) (suc i) h = drop_here bs i (omega (arith, h))

-- a number that fits is the one that is read
pub number_fits : (text : Text) (n i : ℕ) → number_after 0 text ≡ number_after n (drop i text) → length text ≤ i → n ≤ most_number →
    Some n ≡ number_in text
number_fits text n i e past fits = by_test (nat_le (number_after 0 text) most_number) refl
  where
    whole : number_after 0 text ≡ n
    whole = e ∙ ap (number_after n) (drop_past text i past)

    by_test : (b : Bool) → nat_le (number_after 0 text) most_number ≡ b →
        Some n ≡ (if b then Some (number_after 0 text) else None)
    by_test true is = ap Some (sym whole)
    by_test false is = absurd (grind (arith, is, whole, fits))

-- where a digit makes the number too great, no number is read
pub number_passes : (text : Text) (n i : ℕ) → number_after 0 text ≡ number_after n (drop i text) → i < length text →
    number_next n (slice_index text i) ≡ None → None ≡ number_in text
number_passes text n i e within none = by_test (nat_le (number_after 0 text) most_number) (nat_le next most_number) refl refl none
  where
    next : ℕ
    next = n * 10 + (slice_index text i - 48)

    whole : number_after 0 text ≡ number_after n (slice_index text i ∷ drop (suc i) text)
    whole = e ∙ ap (number_after n) (drop_here text i within)

    by_test : (c d : Bool) → nat_le (number_after 0 text) most_number ≡ c →
        nat_le (n * 10 + (slice_index text i - 48)) most_number ≡ d →
        (if d then Some (n * 10 + (slice_index text i - 48)) else None) ≡ None →
        None ≡ (if c then Some (number_after 0 text) else None)
    by_test false d is of none = refl
    by_test true true is of none = cc
    by_test true false is of none =
        let more = after_grows (n * 10 + (slice_index text i - 48)) (drop (suc i) text) in
        absurd (grind (arith, is, of, whole, more))
