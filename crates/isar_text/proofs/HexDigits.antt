-- Bytes as two hexadecimal digits: what is written is read, and what is read is written.
use Rattle.std.proofs.Common.{◌≡◌, ℕ, ◌+◌, ◌*◌, ◌/◌, ◌%◌, ◌<◌, ◌≤◌, ◌==◌, Bool, true, false, not, ◌&&◌, ◌||◌, List, [], ◌∷◌, refl, ap, sym, ◌∙◌, arith}
use Rattle.std.specs.List.{list_all, list_any, AllByRecursion}
use Rattle.std.specs.Prelude.{nat_lt}
use Rattle.std.specs.Str.{bytes_eq}
use Rattle.std.proofs.lemmas.Bool.{agree_below_at, eqb-true, ltb-true}
use Rattle.std.proofs.lemmas.Bool.Decides.{nat_tests}
use Rattle.std.proofs.lemmas.Slice.Eq.{bytes_eq-Decides}
use Rattle.text_core.specs.Names.{Text, is_digit, is_printable}
use Rattle.text_core.specs.NameTexts.{IsPrintable}
use Rattle.text_core.proofs.Laws.{and_both, and_true}
use Rattle.isar_text.specs.Names.{hex_digit, hex_text, digit_value, unhexed}
use Rattle.isar_text.specs.Digits.{is_hex, byte_of, is_pair, are_pairs}

-- what is written for a number below 16 is a digit
written_is_hex : (n : ℕ) → n < 16 → is_hex (hex_digit n) ≡ true
written_is_hex n small = agree_below_at (λ n. is_hex (hex_digit n)) (λ n. true) 16 n refl small

-- and stands for it
written_value : (n : ℕ) → n < 16 → digit_value (hex_digit n) ≡ n
written_value n small = eqb-true (digit_value (hex_digit n)) n (agree_below_at (λ n. digit_value (hex_digit n) == n) (λ n. true) 16 n refl small)

-- a digit is a byte below 103
hex_below : (b : ℕ) → is_hex b ≡ true → b < 103
hex_below b is = grind (arith, nat_tests)

-- a digit stands for a number below 16, which is written so
read_back : (b : ℕ) → is_hex b ≡ true → (digit_value b < 16) × (hex_digit (digit_value b) ≡ b)
read_back b is =
    let both = and_both (nat_lt (digit_value b) 16) (hex_digit (digit_value b) == b) (known (is_hex b) (nat_lt (digit_value b) 16 && (hex_digit (digit_value b) == b)) is
    (agree_below_at (λ b. not (is_hex b) || (nat_lt (digit_value b) 16 && (hex_digit (digit_value b) == b))) (λ b. true) 103 b refl (hex_below b is))) in
    (ltb-true (digit_value b) 16 both.0, eqb-true (hex_digit (digit_value b)) b both.1)
  where
    known : (a t : Bool) → a ≡ true → (not a || t) ≡ true → t ≡ true
    known true t e h = h
    known false t e h = absurd (cc)

-- the digits of a byte
record IsPairOf (byte high low : ℕ) : Type 0 where
  high_is : is_hex high ≡ true
  low_is : is_hex low ≡ true
  value : byte_of high low ≡ byte

-- those that are written for it
written_pair : (b : ℕ) → b < 256 → IsPairOf b (hex_digit (b / 16)) (hex_digit (b % 16))
written_pair b small =
    let high : b / 16 < 16 = omega arith in
    let low : b % 16 < 16 = omega arith in
    let above = written_value (b / 16) high in
    let below = written_value (b % 16) low in record {
      high_is = written_is_hex (b / 16) high;
      low_is = written_is_hex (b % 16) low;
      value = omega (arith, above, below);
    }

-- the byte of two digits is written with them
record IsWrittenPair (b c : ℕ) : Type 0 where
  high : hex_digit (byte_of b c / 16) ≡ b
  low : hex_digit (byte_of b c % 16) ≡ c

read_pair : (b c : ℕ) → is_hex b ≡ true → is_hex c ≡ true → IsWrittenPair b c
read_pair b c first second =
    let upper = read_back b first in
    let lower = read_back c second in
    let few : digit_value c < 16 = lower.0 in
    let above : byte_of b c / 16 ≡ digit_value b = omega arith in
    let below : byte_of b c % 16 ≡ digit_value c = omega arith in
    record { high = ap hex_digit above ∙ upper.1; low = ap hex_digit below ∙ lower.1 }

-- what a pair that passes a test is
record IsPairWith (test : ℕ → Bool) (b c : ℕ) : Type 0 where
  high_is : is_hex b ≡ true
  low_is : is_hex c ≡ true
  passes : test (byte_of b c) ≡ true

pair_parts : (test : ℕ → Bool) (b c : ℕ) → is_pair test b c ≡ true → IsPairWith test b c
pair_parts test b c h =
    let last = and_both (is_hex b && is_hex c) (test (byte_of b c)) h in
    let first = and_both (is_hex b) (is_hex c) last.0 in
    record { high_is = first.0; low_is = first.1; passes = last.1 }

-- bytes that are written are read
pub unhexed-hex : (bs : Text) → IsPrintable bs → unhexed (hex_text bs) ≡ bs
unhexed-hex [] p = refl
unhexed-hex (b ∷ bs) p =
    let low = p.0 in
    let high = p.1 in
    let rest = unhexed-hex bs p.2 in
    let same = (written_pair b (omega arith)).value in cc

-- digits that are read are written
pub hex-unhexed : (test : ℕ → Bool) (ds : Text) → are_pairs test ds ≡ true → hex_text (unhexed ds) ≡ ds
hex-unhexed test [] h = refl
hex-unhexed test (b ∷ []) h = absurd (cc)
hex-unhexed test (b ∷ c ∷ rest) h =
    let both = and_both (is_pair test b c) (are_pairs test rest) h in
    let pair = pair_parts test b c both.0 in
    let written = read_pair b c pair.high_is pair.low_is in
    let later = hex-unhexed test rest both.1 in
    let high = written.high in
    let low = written.low in cc

-- the bytes of digits pass the test
pub pairs_pass : (test : ℕ → Bool) (ds : Text) → are_pairs test ds ≡ true → list_all test (unhexed ds) ≡ true
pairs_pass test [] h = refl
pairs_pass test (b ∷ []) h = absurd (cc)
pairs_pass test (b ∷ c ∷ rest) h =
    let both = and_both (is_pair test b c) (are_pairs test rest) h in
    and_true (test (byte_of b c)) (list_all test (unhexed rest)) (pair_parts test b c both.0).passes (pairs_pass test rest both.1)

-- whether they pass another test
pub pairs_tested : (test other : ℕ → Bool) (ds : Text) → are_pairs test ds ≡ true → are_pairs other ds ≡ list_all other (unhexed ds)
pairs_tested test other [] h = refl
pairs_tested test other (b ∷ []) h = absurd (cc)
pairs_tested test other (b ∷ c ∷ rest) h =
    let both = and_both (is_pair test b c) (are_pairs test rest) h in
    let pair = pair_parts test b c both.0 in
    rw (pair.high_is, pair.low_is, pairs_tested test other rest both.1)

-- bytes that pass the test are written as digits that do
pub pairs_written : (test : ℕ → Bool) (bs : Text) → IsPrintable bs → list_all test bs ≡ true → are_pairs test (hex_text bs) ≡ true
pairs_written test [] p h = refl
pairs_written test (b ∷ bs) p h =
    let low = p.0 in
    let high = p.1 in
    let both = and_both (test b) (list_all test bs) h in
    let pair = written_pair b (omega arith) in
    rw (pair.high_is, pair.low_is, pair.value, both.0) (pairs_written test bs p.2 both.1)

-- the same bytes
bytes_same : (xs ys : Text) → bytes_eq xs ys ≡ true → xs ≡ ys
bytes_same xs ys is = (bytes_eq-Decides xs ys).0 is

-- digits are those of a word where the word is what they spell
word_spelled : (ds word : Text) → hex_text (unhexed ds) ≡ ds → unhexed (hex_text word) ≡ word → bytes_eq ds (hex_text word) ≡ bytes_eq (unhexed ds) word
word_spelled ds word written read = go (bytes_eq ds (hex_text word)) (bytes_eq (unhexed ds) word) refl refl
  where
    go : (s t : Bool) → bytes_eq ds (hex_text word) ≡ s → bytes_eq (unhexed ds) word ≡ t → s ≡ t
    go true true e f = refl
    go false false e f = refl
    go true false e f = sym ((bytes_eq-Decides (unhexed ds) word).1 (ap unhexed (bytes_same ds (hex_text word) e) ∙ read)) ∙ f
    go false true e f = sym e ∙ (bytes_eq-Decides ds (hex_text word)).1 (sym written ∙ ap hex_text (bytes_same (unhexed ds) word f))

-- the same of some word of several
pub words_spelled : (ds : Text) (words : List Text) → hex_text (unhexed ds) ≡ ds → AllByRecursion (λ word. unhexed (hex_text word) ≡ word) words →
    list_any (λ word. bytes_eq ds (hex_text word)) words ≡ list_any (bytes_eq (unhexed ds)) words
words_spelled ds [] written all = refl
words_spelled ds (word ∷ words) written all =
    let here = word_spelled ds word written all.0 in
    let later = words_spelled ds words written all.1 in cc
