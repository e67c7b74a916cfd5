-- Numbers as pieces of a text: what is written in decimal is read as the same number.
use Rattle.std.specs.Prelude.{◌≡◌, ℕ, zero, suc, ◌^◌, ◌<◌, ◌≤◌, ◌==◌, ◌&&◌, ◌||◌, nat_le, Bool, true, false, [], ◌∷◌, get_or, Some, None, IsTrue, if◌then◌else◌}
use Rattle.std.specs.Fmt.{decimal}
use Rattle.std.specs.List.{list_all}
use Rattle.std.specs.Str.{bytes_eq}
use Rattle.std.proofs.Common.{refl, sym, ◌∙◌, ap, subst, arith, rules}
use Rattle.std.proofs.lemmas.Str.Parse.{IsNumeralModel, numerals_by_fold}
use Rattle.std.proofs.lemmas.Fmt.{digits_decimal, digits_value-decimal, first_decimal, decimal_digit}
use Rattle.text_core.specs.Names.{Text, is_digit}
use Rattle.text_core.proofs.Laws.{number_same}
use Rattle.tptp_lexer.specs.declared.kind.Kind.TheVariants as kind
use Rattle.tptp_lexer.specs.Kinds.{is_integer, is_natural}
use Rattle.tptp_lexer.specs.Tokens.{Token as LexToken}
use Rattle.tptp_lexer.proofs.Laws.{NoWord, Gives, seen, integer}
use Rattle.proof_text.specs.declared.limits.TheConstants.{MOST_WITHIN}
use Rattle.proof_text.specs.declared.mark.Integer.TheVariants.{One, Two, Few, Number, NoNumber}
use Rattle.proof_text.specs.declared.mark.Mark as Mark
use Rattle.proof_text.specs.declared.mark.Mark.TheVariants as mark
use Rattle.proof_text.specs.declared.part.TextPart.TheVariants.{Taken}
use Rattle.proof_text.specs.declared.part.Taker.TheVariants as taker
use Rattle.proof_text.specs.declared.part.Counting as Counting
use Rattle.proof_text.specs.declared.part.Counting.TheVariants as counting
use Rattle.proof_text.specs.declared.part.Act as Act
use Rattle.proof_text.specs.Marks.{number_after, number_mark, number_in as number_read, fitting_mark, integer_mark, is_signed, most_number, mark_of}
use Rattle.proof_text.specs.Grammar.{mark_taken, counts, is_number, is_few}
use Rattle.proof_text.specs.Values.{marked_number}
use Rattle.proof_text.proofs.Standing.{Spells, token_spelled}

-- digits, and the number that they write
own : IsNumeralModel (λ ds. list_all is_digit ds ≡ true) (number_after 0)
own = numerals_by_fold _ (search rules) number_after (search rules)

-- digits that begin with no zero are an integer without a sign
integer_from : (b : ℕ) (bs : Text) → list_all is_digit (b ∷ bs) ≡ true → 48 < b → (is_integer (b ∷ bs) ≡ true) × (is_signed (b ∷ bs) ≡ false)
integer_from b bs digits more = by_tests (b == 43) (b == 45) (b == 48) refl refl refl
  where
    by_tests : (plus minus zero_digit : Bool) → (b == 43) ≡ plus → (b == 45) ≡ minus → (b == 48) ≡ zero_digit →
        ((if plus || minus then is_natural bs else (if zero_digit then bytes_eq bs [] else is_digit b && list_all is_digit bs)) ≡ true) × ((plus || minus) ≡ false)
    by_tests true minus z e f g = absurd (let same = number_same b 43 e in omega (arith, same, more))
    by_tests false true z e f g = absurd (let same = number_same b 45 f in omega (arith, same, more))
    by_tests false false true e f g = absurd (let same = number_same b 48 g in omega (arith, same, more))
    by_tests false false false e f g = (digits, refl)

-- what is known of the decimal text of a number
record IsPlain (n : ℕ) (ds : Text) : Type 0 where
  whole : is_integer ds ≡ true
  unsigned : is_signed ds ≡ false
  value : number_after 0 ds ≡ n

-- the text of 0
zero_plain : (ds : Text) → ds ≡ 48 ∷ [] → IsPlain 0 ds
zero_plain ds e = subst (IsPlain 0) (sym e) (record { whole = refl; unsigned = refl; value = refl })

-- the text of another number
more_plain : (n : ℕ) (ds : Text) → list_all is_digit ds ≡ true → number_after 0 ds ≡ n → 48 < get_or ds 0 0 → IsPlain n ds
more_plain n [] digits value more = absurd (let less = more in omega (arith, less))
more_plain n (b ∷ bs) digits value more =
    let (whole, unsigned) = integer_from b bs digits more in record { whole = whole; unsigned = unsigned; value = value }

-- the decimal text of a number is an integer without a sign, which writes that number
decimal_plain : (n : ℕ) → n ≤ most_number → IsPlain n (decimal n)
decimal_plain zero fits = zero_plain (decimal 0) (decimal_digit 0 (omega arith))
decimal_plain (suc n) fits =
    let small : suc n < 2 ^ 64 = omega (arith, fits) in
    more_plain (suc n) (decimal (suc n)) (digits_decimal own (suc n) small) (digits_value-decimal own (suc n) small)
    (first_decimal (suc n) (omega arith) small)

-- a text that writes a number that fits is marked by it
read_marked : (ds : Text) (n : ℕ) → IsPlain n ds → n ≤ most_number → integer_mark ds ≡ number_mark n
read_marked ds n plain fits =
    ap (λ (signed : Bool). if signed then NoNumber else fitting_mark (number_read ds)) plain.unsigned ∙
    (ap (λ (m : ℕ). fitting_mark (if nat_le m most_number then Some m else None)) plain.value ∙
    by_test (nat_le n most_number) refl)
  where
    by_test : (b : Bool) → nat_le n most_number ≡ b → fitting_mark (if b then Some n else None) ≡ number_mark n
    by_test true e = refl
    by_test false e = absurd (grind (arith, e, fits))

-- the mark of a number tells it
number_told : (n : ℕ) → (is_number (mark.Integer (number_mark n)) ≡ true) × (marked_number (mark.Integer (number_mark n)) ≡ n)
number_told n = by_tests (n == 1) (n == 2) (nat_le 1 n && nat_le n MOST_WITHIN) refl refl
  where
    by_tests : (one two few : Bool) → (n == 1) ≡ one → (n == 2) ≡ two →
        (is_number (mark.Integer (if one then One else (if two then Two else (if few then Few n else Number n)))) ≡ true) ×
        (marked_number (mark.Integer (if one then One else (if two then Two else (if few then Few n else Number n)))) ≡ n)
    by_tests true two few e f = (refl, sym (number_same n 1 e))
    by_tests false true few e f = (refl, sym (number_same n 2 f))
    by_tests false false true e f = (refl, refl)
    by_tests false false false e f = (refl, refl)

-- the mark of a number that a gap may have tells that it may
few_told : (n : ℕ) → 1 ≤ n → n ≤ MOST_WITHIN → is_few (mark.Integer (number_mark n)) ≡ true
few_told n least most = by_tests (n == 1) (n == 2) (nat_le 1 n) (nat_le n MOST_WITHIN) refl refl
  where
    by_tests : (one two some few : Bool) → nat_le 1 n ≡ some → nat_le n MOST_WITHIN ≡ few →
        is_few (mark.Integer (if one then One else (if two then Two else (if some && few then Few n else Number n)))) ≡ true
    by_tests true two some few e f = refl
    by_tests false true some few e f = refl
    by_tests false false true true e f = refl
    by_tests false false true false e f = absurd (grind (arith, f, most))
    by_tests false false false few e f = absurd (grind (arith, e, least))

-- the mark of the token of a number's decimal text
token_marked : (t : LexToken) (n : ℕ) → n ≤ most_number → t.kind ≡ kind.Integer → t.text ≡ decimal n →
    mark_of t.kind t.text ≡ mark.Integer (number_mark n)
token_marked t n fits is text =
    ap (λ k. mark_of k t.text) is ∙ (ap (mark_of kind.Integer) text ∙
    ap mark.Integer (read_marked (decimal n) n (decimal_plain n fits) fits))

-- a token of a number's decimal text, where such a number is counted
number_spelled : (c : Counting.Counting) (n : ℕ) → n ≤ most_number → IsTrue (counts c (mark.Integer (number_mark n))) →
    Gives NoWord (decimal n) (Spells (Taken (taker.Number c)) n)
number_spelled c n fits counted = seen
    (λ ts s.
    let t : LexToken = s.0 in
    let marks = token_marked t n fits s.1 s.2 in
    subst (Spells (Taken (taker.Number c)) n) (sym s.3)
    (token_spelled (taker.Number c) n t (ap (counts c) marks ∙ counted) (λ all i at. ap marked_number marks ∙ (number_told n).1)))
    (integer (decimal n) (decimal_plain n fits).whole)

-- any number is counted here
abbrev pub CountsAny : Counting.Counting → Type 0
CountsAny c = (m : Mark.Mark) → IsTrue (is_number m) → IsTrue (counts c m)

-- a number
pub number_piece : (c : Counting.Counting) → CountsAny c → (n : ℕ) → n ≤ most_number → Gives NoWord (decimal n) (Spells (Taken (taker.Number c)) n)
number_piece c any n fits = number_spelled c n fits (any (mark.Integer (number_mark n)) (number_told n).0)

-- the number of a gap
pub within_piece : (n : ℕ) → 1 ≤ n → n ≤ MOST_WITHIN → Gives NoWord (decimal n) (Spells (Taken (taker.Number counting.Within)) n)
within_piece n least most = number_spelled counting.Within n (omega (arith, most)) (few_told n least most)

-- the number 1 in the place of the version
pub one_piece : (does : Act.Act) → Gives NoWord (decimal 1) (Spells (Taken (taker.One does)) tt)
one_piece does = seen
    (λ ts s.
    let t : LexToken = s.0 in
    subst (Spells (Taken (taker.One does)) tt) (sym s.3)
    (token_spelled (taker.One does) tt t (ap (mark_taken (taker.One does)) (token_marked t 1 (omega arith) s.1 s.2)) (λ all i at. tt)))
    (integer (decimal 1) (decimal_plain 1 (omega arith)).whole)

-- the number 2
pub two_piece : (does : Act.Act) → Gives NoWord (decimal 2) (Spells (Taken (taker.Two does)) tt)
two_piece does = seen
    (λ ts s.
    let t : LexToken = s.0 in
    subst (Spells (Taken (taker.Two does)) tt) (sym s.3)
    (token_spelled (taker.Two does) tt t (ap (mark_taken (taker.Two does)) (token_marked t 2 (omega arith) s.1 s.2)) (λ all i at. tt)))
    (integer (decimal 2) (decimal_plain 2 (omega arith)).whole)
