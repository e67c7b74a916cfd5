-- The number that a word is, against its decimal digits.
use Rattle.std.specs.Prelude.{OkIff, IfSome, IfNone}
use Rattle.std.specs.Result.{result_ok}
use Rattle.std.specs.Bool.{Decides}
use Rattle.std.specs.Str.{bytes_eq, IsUtf8}
use Rattle.std.specs.Str.Parse.{ParsesUnsigned, AllDigits, digits_value}
use Rattle.std.specs.Fmt.{decimal}
use Rattle.std.proofs.lemmas.Str.{IsUtf8-from_ascii}
use Rattle.std.proofs.lemmas.Str.Parse.{IsNumeralModel, numerals_by_value, tells_digits, not_in_digits, parse_plain}
use Rattle.std.proofs.lemmas.Fmt.{decimal_injective, decimal_nonempty, decimal_digit, first_decimal, IsAscii-decimal, digits_decimal, decimal-digits_value, parse-decimal}
use Rattle.std.proofs.lemmas.Slice.Eq.{bytes_eq-Decides}
use Rattle.std.proofs.Common.{◌≡◌, ◌≢◌, ◌≤◌, ◌<◌, ◌^◌, ℕ, zero, suc, if◌then◌else◌, Bool, true, false, List, [], ◌∷◌, length, get_or, Option, Some, None, Result, Ok, Err, refl, sym, ap, subst, ◌∙◌, arith}
use Rattle.text_core.specs.Names.{Text}
use Rattle.text_core.proofs.Laws.{value_same}
use Rattle.larus_cli.specs.Numerals.{number_of}

-- equal bytes, by their test
pub bytes_same : (xs ys : Text) → bytes_eq xs ys ≡ true → xs ≡ ys
bytes_same xs ys is = (bytes_eq-Decides xs ys).0 is

-- unequal bytes, by their test
bytes_apart : (xs ys : Text) → bytes_eq xs ys ≡ false → xs ≡ ys → ⊥
bytes_apart xs ys is same = let passes = (bytes_eq-Decides xs ys).1 same in absurd cc

-- digits and their value
own : IsNumeralModel (AllDigits 10) (digits_value 10)
own = numerals_by_value (AllDigits 10) tells_digits

-- digits do not begin with a sign
pub signed_none : (word : Text) (number : ℕ) → number < 2 ^ 64 → 0 < length word → get_or word 0 0 ≡ 43 → word ≡ decimal number → ⊥
signed_none word number small some sign is =
    not_in_digits own (decimal number) 43 (digits_decimal own number small) (λ within. omega (arith, within)) 0
    (subst (λ w. 0 < length w) is some) (subst (λ w. get_or w 0 0 ≡ 43) is sign)

-- where digits begin with 0, they are one digit
pub padded_none : (word : Text) (number : ℕ) → number < 2 ^ 64 → 1 < length word → get_or word 0 0 ≡ 48 → word ≡ decimal number → ⊥
padded_none word zero small long zeroed is =
    let one = ap (λ (w : Text). length w) (is ∙ decimal_digit 0 (omega arith)) in absurd (omega arith)
padded_none word (suc number) small long zeroed is =
    let first = first_decimal (suc number) (omega arith) small in
    let same = subst (λ w. get_or w 0 0 ≡ 48) is zeroed in absurd (omega arith)

-- digits are a text
pub odd_none : (word : Text) (number : ℕ) → number < 2 ^ 64 → (IsUtf8 word → ⊥) → word ≡ decimal number → ⊥
odd_none word number small odd is = odd (subst IsUtf8 (sym is) (IsUtf8-from_ascii (decimal number) (IsAscii-decimal number small)))

-- a word without sign and leading zero that is read as a number is the number's digits
pub read_digits : {E : Type 0} (word : Text) (number : ℕ) (result : Result ℕ E) → ParsesUnsigned 32 10 word result →
    get_or word 0 0 ≢ 43 → (get_or word 0 0 ≡ 48 → length word ≡ 1) → result ≡ Ok number → word ≡ decimal number
read_digits word number result parses plain short is =
    let read = subst (λ r. OkIff r (AllDigits 10 word × (0 < length word) × (digits_value 10 word < 2 ^ 32)) (digits_value 10 word)) is
    (parse_plain own 32 word result parses plain) in
    sym (decimal-digits_value own word read.0.0 read.0.1 short (let small = read.0.2 in omega arith)) ∙ ap decimal (sym read.1)

-- a word that is not read as a number is no number's digits
pub unread_none : {E : Type 0} (word : Text) (number : ℕ) (result : Result ℕ E) (because : E) → ParsesUnsigned 32 10 word result →
    result ≡ Err because → number < 2 ^ 32 → word ≡ decimal number → ⊥
unread_none word number result because parses is small digits =
    let read : result ≡ Ok number = parse-decimal 32 number word result small (omega arith) digits parses in absurd cc

-- what is read as a number, and what is not
pub parsed_some : {E : Type 0} (word : Text) (number : ℕ) (result : Result ℕ E) → ParsesUnsigned 32 10 word result →
    get_or word 0 0 ≢ 43 → get_or word 0 0 ≢ 48 → result ≡ Ok number → word ≡ decimal number
parsed_some word number result parses plain unpadded is = read_digits word number result parses plain (λ zeroed. absurd (unpadded zeroed)) is

-- what is read of a text as a number has the text's digits
pub parsed_found : {E : Type 0} (word text : Text) (result : Result ℕ E) (found : Option ℕ) → text ≡ word → ParsesUnsigned 32 10 text result →
    found ≡ result_ok result → get_or word 0 0 ≢ 43 → get_or word 0 0 ≢ 48 → IfSome found (λ number. word ≡ decimal number)
parsed_found {E = E} word text (Ok number) found same parses is plain unpadded = subst (λ o. IfSome o (λ number. word ≡ decimal number)) (sym is)
    (parsed_some {E = E} word number (Ok number) (subst (λ w. ParsesUnsigned {E = E} 32 10 w (Ok number)) same parses) plain unpadded refl)
parsed_found word text (Err e) found same parses is plain unpadded = subst (λ o. IfSome o (λ number. word ≡ decimal number)) (sym is) tt

-- where nothing is read of a text, it is no number's digits
pub parsed_none : {E : Type 0} (word text : Text) (result : Result ℕ E) (found : Option ℕ) → text ≡ word → ParsesUnsigned 32 10 text result →
    found ≡ result_ok result → IfNone found ((number : ℕ) → number < 2 ^ 32 → word ≡ decimal number → ⊥)
parsed_none word text (Ok number) found same parses is =
    subst (λ o. IfNone o ((number : ℕ) → number < 2 ^ 32 → word ≡ decimal number → ⊥)) (sym is) tt
parsed_none word text (Err e) found same parses is =
    subst (λ o. IfNone o ((number : ℕ) → number < 2 ^ 32 → word ≡ decimal number → ⊥)) (sym is)
    (λ number small digits. unread_none text number (Err e) e parses refl small (same ∙ digits))

-- no digits are nothing
pub empty_none : (word : Text) (number : ℕ) → number < 2 ^ 64 → length word ≡ 0 → word ≡ decimal number → ⊥
empty_none word number small empty is =
    let some = decimal_nonempty number small in let same = ap (λ (w : Text). length w) is in absurd (omega arith)

-- the digit 0
pub zero_word : (word : Text) → length word ≡ 1 → get_or word 0 0 ≡ 48 → word ≡ decimal 0
zero_word (digit ∷ []) one is = ap (λ d. d ∷ []) is ∙ sym (decimal_digit 0 (omega arith))
zero_word [] one is = absurd (omega arith)
zero_word (first ∷ second ∷ rest) one is = absurd (omega arith)

-- the number that a word is has its digits, and is within the bound
pub number_told : (most : ℕ) (word : Text) (number : ℕ) → number_of most word ≡ Some number → (word ≡ decimal number) × (number ≤ most)
unfolding number_of
number_told zero word number told = by (bytes_eq word (decimal zero)) refl told
  where
    by : (same : Bool) → bytes_eq word (decimal zero) ≡ same → (if same then Some zero else None) ≡ Some number →
        (word ≡ decimal number) × (number ≤ zero)
    by true is told = let one = value_same told in
        (bytes_same word (decimal zero) is ∙ ap decimal one, omega (arith, sym one))
    by false is told = absurd cc
number_told (suc most) word number told = by (bytes_eq word (decimal (suc most))) refl told (number_told most word number)
  where
    by : (same : Bool) → bytes_eq word (decimal (suc most)) ≡ same → (if same then Some (suc most) else number_of most word) ≡ Some number →
        (number_of most word ≡ Some number → (word ≡ decimal number) × (number ≤ most)) → (word ≡ decimal number) × (number ≤ suc most)
    by true is told lower = let one = value_same told in
        (bytes_same word (decimal (suc most)) is ∙ ap decimal one, omega (arith, sym one))
    by false is told lower = let rest = lower told in let few = rest.1 in (rest.0, omega arith)

-- the number with these digits is the one that the word is
pub number_some : (most number : ℕ) (word : Text) → most < 2 ^ 64 → number ≤ most → word ≡ decimal number → number_of most word ≡ Some number
unfolding number_of
number_some zero number word small few is = by (bytes_eq word (decimal zero)) refl
  where
    none : number ≡ zero
    none = omega arith

    by : (same : Bool) → bytes_eq word (decimal zero) ≡ same → (if same then Some zero else None) ≡ Some number
    by true also = ap Some (sym none)
    by false also = absurd (bytes_apart word (decimal zero) also (is ∙ ap decimal none))
number_some (suc most) number word small few is =
    by (bytes_eq word (decimal (suc most))) refl (λ less. number_some most number word (omega arith) less is)
  where
    by : (same : Bool) → bytes_eq word (decimal (suc most)) ≡ same → (number ≤ most → number_of most word ≡ Some number) → (if same then Some (suc most) else number_of most word) ≡ Some number
    by true also lower = ap Some (decimal_injective (suc most) number small (omega arith) (sym (bytes_same word (decimal (suc most)) also) ∙ is))
    by false also lower =
        let other : number ≢ suc most = λ e. bytes_apart word (decimal (suc most)) also (is ∙ ap decimal e) in
        lower (omega (arith, other))

-- a word that is no number's digits is none
pub number_none : (most : ℕ) (word : Text) → ((number : ℕ) → number ≤ most → word ≡ decimal number → ⊥) → number_of most word ≡ None
unfolding number_of
number_none zero word none = by (bytes_eq word (decimal zero)) refl
  where
    by : (same : Bool) → bytes_eq word (decimal zero) ≡ same → (if same then Some zero else None) ≡ None
    by true also = absurd (none zero (omega arith) (bytes_same word (decimal zero) also))
    by false also = refl
number_none (suc most) word none =
    by (bytes_eq word (decimal (suc most))) refl (number_none most word (λ number few is. none number (omega arith) is))
  where
    by : (same : Bool) → bytes_eq word (decimal (suc most)) ≡ same → number_of most word ≡ None → (if same then Some (suc most) else number_of most word) ≡ None
    by true also lower = absurd (none (suc most) (omega arith) (bytes_same word (decimal (suc most)) also))
    by false also lower = lower

-- where a word is the digits of some number or of none, it is the number that is within the bound
pub read_within : (most number : ℕ) (word : Text) → most < 2 ^ 32 → word ≡ decimal number → number < 2 ^ 32 → most < number → number_of most word ≡ None
read_within most number word small is also above = number_none most word
    (λ other few same. absurd (let e = decimal_injective other number (omega arith) (omega arith) (sym same ∙ is) in omega arith))
