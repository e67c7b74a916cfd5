-- Numbers in digits: what is written in decimal is read as the same number.
use Rattle.std.specs.Prelude.{◌≡◌, ℕ, zero, suc, ◌^◌, ◌<◌, ◌≤◌, ◌==◌, ◌&&◌, ◌||◌, nat_le, Bool, true, false, [], ◌∷◌, get_or, length, Option, Some, None, if◌then◌else◌}
use Rattle.std.specs.Fmt.{decimal}
use Rattle.std.specs.List.{list_all}
use Rattle.std.specs.Str.{bytes_eq}
use Rattle.std.proofs.Common.{refl, sym, ◌∙◌, ap, subst, arith, rules}
use Rattle.std.proofs.lemmas.Bool.Decides.{nat_tests}
use Rattle.std.proofs.lemmas.Str.Parse.{IsNumeralModel, numerals_by_fold}
use Rattle.std.proofs.lemmas.Fmt.{digits_decimal, digits_value-decimal, first_decimal, decimal_digit}
use Rattle.text_core.specs.Names.{Text, is_digit, is_word}
use Rattle.text_core.proofs.Laws.{and_both, and_true, number_same}
use Rattle.tptp_lexer.specs.Kinds.{is_integer, is_natural}
use Rattle.proof_text.specs.Marks.{number_after, number_in, most_number}
use Rattle.isar_text.specs.Marks.{number_of}

-- digits, and the number that they write
own : IsNumeralModel (λ ds. list_all is_digit ds ≡ true) (number_after 0)
own = numerals_by_fold _ (search rules) number_after (search rules)

-- what is known of the decimal text of a number
pub record IsDecimal (n : ℕ) (ds : Text) : Type 0 where
  pub some : 0 < length ds
  pub digits : list_all is_digit ds ≡ true
  pub natural : is_natural ds ≡ true
  pub value : number_after 0 ds ≡ n

-- digits that begin with no zero are a natural number
natural_from : (b : ℕ) (bs : Text) → list_all is_digit (b ∷ bs) ≡ true → 48 < b → is_natural (b ∷ bs) ≡ true
natural_from b bs digits more = go (b == 48) refl
  where
    go : (t : Bool) → (b == 48) ≡ t → (if t then bytes_eq bs [] else is_digit b && list_all is_digit bs) ≡ true
    go true e = absurd (let same = number_same b 48 e in omega (arith, same, more))
    go false e = digits

-- the text of 0
zero_decimal : (ds : Text) → ds ≡ 48 ∷ [] → IsDecimal 0 ds
zero_decimal ds e = subst (IsDecimal 0) (sym e) (record { some = omega arith; digits = refl; natural = refl; value = refl })

-- the text of another number
more_decimal : (n : ℕ) (ds : Text) → list_all is_digit ds ≡ true → number_after 0 ds ≡ n → 48 < get_or ds 0 0 → IsDecimal n ds
more_decimal n [] digits value more = absurd (let less = more in omega (arith, less))
more_decimal n (b ∷ bs) digits value more = record { some = omega arith; digits = digits; natural = natural_from b bs digits more; value = value }

-- the decimal text of a number
pub decimal_known : (n : ℕ) → n ≤ most_number → IsDecimal n (decimal n)
decimal_known zero fits = zero_decimal (decimal 0) (decimal_digit 0 (omega arith))
decimal_known (suc n) fits =
    let small : suc n < 2 ^ 64 = omega (arith, fits) in
    more_decimal (suc n) (decimal (suc n)) (digits_decimal own (suc n) small) (digits_value-decimal own (suc n) small)
    (first_decimal (suc n) (omega arith) small)

-- it is read as that number
pub number_of-decimal : (n : ℕ) → n ≤ most_number → number_of (decimal n) ≡ Some n
number_of-decimal n fits = go (decimal n) (decimal_known n fits)
  where
    by_test : (b : Bool) → nat_le n most_number ≡ b → (if b then Some n else None) ≡ Some n
    by_test true e = refl
    by_test false e = absurd (grind (arith, e, fits))

    go : (ds : Text) → IsDecimal n ds → number_of ds ≡ Some n
    go ds known =
        ap (λ (t : Bool). if t then number_in ds else None) known.natural ∙
        (ap (λ (m : ℕ). if nat_le m most_number then Some m else None) known.value ∙ by_test (nat_le n most_number) refl)

-- digits may go on with a word
pub digits_words : (ds : Text) → list_all is_digit ds ≡ true → list_all is_word ds ≡ true
digits_words [] h = refl
digits_words (b ∷ bs) h =
    let both = and_both (is_digit b) (list_all is_digit bs) h in
    let here = both.0 in
    and_true (is_word b) (list_all is_word bs) (grind (arith, nat_tests)) (digits_words bs both.1)

-- a natural number is an integer that begins with a digit
pub natural_integer : (b : ℕ) (bs : Text) → (is_digit b && is_integer (b ∷ bs)) ≡ is_natural (b ∷ bs)
natural_integer b bs = go (is_digit b) (b == 43 || b == 45) (b == 48) refl refl refl
  where
    go : (digit signed zero_digit : Bool) → is_digit b ≡ digit → (b == 43 || b == 45) ≡ signed → (b == 48) ≡ zero_digit →
        (digit && (if signed then is_natural bs else (if zero_digit then bytes_eq bs [] else digit && list_all is_digit bs))) ≡
        (if zero_digit then bytes_eq bs [] else digit && list_all is_digit bs)
    go true true z e f g = absurd (grind (arith, nat_tests))
    go true false z e f g = refl
    go false s true e f g = absurd (grind (arith, nat_tests))
    go false s false e f g = refl
