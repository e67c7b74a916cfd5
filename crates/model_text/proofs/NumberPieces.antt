-- Numbers as pieces of a text: what is written in decimal is read as the same number.
use Rattle.std.specs.Prelude.{◌≡◌, ℕ, zero, suc, ◌^◌, ◌<◌, ◌≤◌, ◌==◌, ◌&&◌, ◌||◌, nat_le, Bool, true, false, [], ◌∷◌, get_or, Some, None, if◌then◌else◌}
use Rattle.std.specs.Fmt.{decimal}
use Rattle.std.specs.List.{list_all}
use Rattle.std.specs.Str.{bytes_eq}
use Rattle.std.proofs.Common.{refl, sym, ◌∙◌, ap, subst, arith, rules}
use Rattle.std.proofs.lemmas.Str.Parse.{IsNumeralModel, numerals_by_fold}
use Rattle.std.proofs.lemmas.Fmt.{digits_decimal, digits_value-decimal, first_decimal, decimal_digit}
use Rattle.text_core.specs.Names.{Text, is_digit}
use Rattle.text_core.proofs.Laws.{number_same}
use Rattle.tptp_lexer.specs.declared.kind.Kind.TheVariants as kind
use Rattle.tptp_lexer.specs.Kinds.{is_integer, is_natural}
use Rattle.tptp_lexer.specs.Tokens.{Token as LexToken}
use Rattle.tptp_lexer.proofs.Laws.{NoWord, Gives, seen, integer}
use Rattle.model_text.specs.declared.mark.Mark.TheVariants as mark
use Rattle.model_text.specs.declared.part.ModelPart.TheVariants.{Taken}
use Rattle.model_text.specs.declared.part.Taker.TheVariants as taker
use Rattle.model_text.specs.Words.{number_among, names_in}
use Rattle.model_text.specs.Numbers.{number_after, number_in, is_signed, most_number}
use Rattle.model_text.specs.Marks.{number_mark, fitting_mark, integer_mark, mark_of}
use Rattle.model_text.specs.Grammar.{is_number}
use Rattle.model_text.specs.Values.{number_of}
use Rattle.model_text.proofs.Standing.{Spells, token_spelled}

-- digits, and the number that they write
own : IsNumeralModel (λ ds. list_all is_digit ds ≡ true) (number_after 0)
own = numerals_by_fold _ (search rules) number_after (search rules)

-- digits that begin with no zero are an integer without a sign
integer_from : (b : ℕ) (bs : Text) → list_all is_digit (b ∷ bs) ≡ true → 48 < b → (is_integer (b ∷ bs) ≡ true) × (is_signed (b ∷ bs) ≡ false)
integer_from b bs digits more = by_tests (b == 43) (b == 45) (b == 48) refl refl refl
  where
    by_tests : (plus minus zero_digit : Bool) → (b == 43) ≡ plus → (b == 45) ≡ minus → (b == 48) ≡ zero_digit →
        ((if plus || minus then is_natural bs else (if zero_digit then bytes_eq bs [] else is_digit b && list_all is_digit bs)) ≡ true) × ((plus || minus) ≡ false)
    by_tests true minus z e f g = absurd (let same = number_same b 43 e in omega (arith, same, more))
    by_tests false true z e f g = absurd (let same = number_same b 45 f in omega (arith, same, more))
    by_tests false false true e f g = absurd (let same = number_same b 48 g in omega (arith, same, more))
    by_tests false false false e f g = (digits, refl)

-- what is known of the decimal text of a number
record IsPlain (n : ℕ) (ds : Text) : Type 0 where
  whole : is_integer ds ≡ true
  unsigned : is_signed ds ≡ false
  value : number_after 0 ds ≡ n

-- the text of 0
zero_plain : (ds : Text) → ds ≡ 48 ∷ [] → IsPlain 0 ds
zero_plain ds e = subst (IsPlain 0) (sym e) (record { whole = refl; unsigned = refl; value = refl })

-- the text of another number
more_plain : (n : ℕ) (ds : Text) → list_all is_digit ds ≡ true → number_after 0 ds ≡ n → 48 < get_or ds 0 0 → IsPlain n ds
more_plain n [] digits value more = absurd (let less = more in omega (arith, less))
more_plain n (b ∷ bs) digits value more =
    let (whole, unsigned) = integer_from b bs digits more in record { whole = whole; unsigned = unsigned; value = value }

-- the decimal text of a number is an integer without a sign, which writes that number
decimal_plain : (n : ℕ) → n ≤ most_number → IsPlain n (decimal n)
decimal_plain zero fits = zero_plain (decimal 0) (decimal_digit 0 (omega arith))
decimal_plain (suc n) fits =
    let small : suc n < 2 ^ 64 = omega (arith, fits) in
    more_plain (suc n) (decimal (suc n)) (digits_decimal own (suc n) small) (digits_value-decimal own (suc n) small)
    (first_decimal (suc n) (omega arith) small)

-- a text that writes a number that fits is marked by it
read_marked : (ds : Text) (n : ℕ) → IsPlain n ds → n ≤ most_number → integer_mark ds ≡ number_mark n
read_marked ds n plain fits =
    ap (λ (signed : Bool). if signed then mark.Other else fitting_mark (number_in ds)) plain.unsigned ∙
    (ap (λ (m : ℕ). fitting_mark (if nat_le m most_number then Some m else None)) plain.value ∙
    by_test (nat_le n most_number) refl)
  where
    by_test : (b : Bool) → nat_le n most_number ≡ b → fitting_mark (if b then Some n else None) ≡ number_mark n
    by_test true e = refl
    by_test false e = absurd (grind (arith, e, fits))

-- the mark of a number tells it
number_told : (n : ℕ) → (is_number (number_mark n) ≡ true) × (number_of (number_mark n) ≡ n)
number_told n = by_test (n == 1) refl
  where
    by_test : (one : Bool) → (n == 1) ≡ one →
        (is_number (if one then mark.One else mark.Number n) ≡ true) × (number_of (if one then mark.One else mark.Number n) ≡ n)
    by_test true e = (refl, sym (number_same n 1 e))
    by_test false e = (refl, refl)

-- the mark of the token of a number's decimal text
token_marked : (word : ℕ) (t : LexToken) (n : ℕ) → n ≤ most_number → t.kind ≡ kind.Integer → t.text ≡ decimal n →
    mark_of word t.kind t.text ≡ number_mark n
token_marked word t n fits is text =
    ap (λ k. mark_of word k t.text) is ∙ (ap (mark_of word kind.Integer) text ∙ read_marked (decimal n) n (decimal_plain n fits) fits)

-- the size of a structure
pub size_piece : (n : ℕ) → n ≤ most_number → Gives NoWord (decimal n) (Spells (Taken taker.Size) n)
size_piece n fits = seen
    (λ ts s.
    let t : LexToken = s.0 in
    subst (Spells (Taken taker.Size) n) (sym s.3)
    (token_spelled taker.Size n t (λ names. ap is_number (token_marked (number_among names t) t n fits s.1 s.2) ∙ (number_told n).0)
    (λ all here. ap number_of (token_marked (number_among (names_in all) t) t n fits s.1 s.2) ∙ (number_told n).1)))
    (integer (decimal n) (decimal_plain n fits).whole)

-- the element of a place
pub element_piece : (n : ℕ) → n ≤ most_number → Gives NoWord (decimal n) (Spells (Taken taker.Element) n)
element_piece n fits = seen
    (λ ts s.
    let t : LexToken = s.0 in
    subst (Spells (Taken taker.Element) n) (sym s.3)
    (token_spelled taker.Element n t (λ names. ap is_number (token_marked (number_among names t) t n fits s.1 s.2) ∙ (number_told n).0)
    (λ all here. ap number_of (token_marked (number_among (names_in all) t) t n fits s.1 s.2) ∙ (number_told n).1)))
    (integer (decimal n) (decimal_plain n fits).whole)

-- an argument of a fact
pub argument_piece : (n : ℕ) → n ≤ most_number → Gives NoWord (decimal n) (Spells (Taken taker.Argument) n)
argument_piece n fits = seen
    (λ ts s.
    let t : LexToken = s.0 in
    subst (Spells (Taken taker.Argument) n) (sym s.3)
    (token_spelled taker.Argument n t (λ names. ap is_number (token_marked (number_among names t) t n fits s.1 s.2) ∙ (number_told n).0)
    (λ all here. ap number_of (token_marked (number_among (names_in all) t) t n fits s.1 s.2) ∙ (number_told n).1)))
    (integer (decimal n) (decimal_plain n fits).whole)
