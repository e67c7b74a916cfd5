-- Names and their written forms: each name has one, and each word is that of one name at most.
use Rattle.std.proofs.Common.{◌≡◌, ℕ, ◌≤◌, ◌==◌, ◌-◌, take, get_or, length, Bool, true, false, not, ◌&&◌, List, [], ◌∷◌, ◌++◌, drop, codes, refl, ap, sym, ◌∙◌, subst, arith}
use Rattle.std.specs.List.{list_all, list_any}
use Rattle.std.specs.Str.{bytes_eq}
use Rattle.std.proofs.lemmas.Bool.{cond_both}
use Rattle.std.proofs.lemmas.Bool.Decides.{nat_tests}
use Rattle.std.proofs.lemmas.List.{take_rest}
use Rattle.std.proofs.lemmas.Slice.Eq.{bytes_eq-Decides}
use Rattle.text_core.specs.Names.{Text, is_lower, is_word, is_printable, is_word_from}
use Rattle.text_core.specs.NameTexts.{IsPrintable, IsNameText}
use Rattle.text_core.proofs.Laws.{and_both, and_true, not_true, not_passes, number_same, name_printable}
use Rattle.isar_text.specs.Digits.{byte_of, are_pairs}
use Rattle.isar_text.specs.Names.{is_reserved, reserved_words, has_prefix, is_plain, hex_text, unhexed, isar_name, decoded, may_name, is_written}
use Rattle.isar_text.proofs.HexDigits.{unhexed-hex, hex-unhexed, pairs_pass, pairs_tested, pairs_written, words_spelled}

-- each byte passes the test of printable bytes, and is one
printable_bytes : (text : Text) → list_all is_printable text ≡ true → IsPrintable text
printable_bytes [] h = tt
printable_bytes (b ∷ bs) h =
    let both = and_both (is_printable b) (list_all is_printable bs) h in
    let here = both.0 in
    (grind (arith, nat_tests), grind (arith, nat_tests), printable_bytes bs both.1)

-- the other way round
printable_tested : (text : Text) → IsPrintable text → list_all is_printable text ≡ true
printable_tested [] p = refl
printable_tested (b ∷ bs) p =
    let low = p.0 in
    let high = p.1 in
    and_true (is_printable b) (list_all is_printable bs) (grind (arith, nat_tests)) (printable_tested bs p.2)

-- bytes that may be a name are one
name_from_test : (text : Text) → may_name text ≡ true → IsNameText text
name_from_test [] h = absurd (cc)
name_from_test (b ∷ bs) h = printable_bytes (b ∷ bs) h

-- a name passes the test of names
name_tested : (text : Text) → IsNameText text → may_name text ≡ true
name_tested [] n = absurd n
name_tested (b ∷ bs) n = printable_tested (b ∷ bs) n

-- the bytes of a word are printable
word_bytes : (text : Text) → list_all is_word text ≡ true → list_all is_printable text ≡ true
word_bytes [] h = refl
word_bytes (b ∷ bs) h =
    let both = and_both (is_word b) (list_all is_word bs) h in
    let here = both.0 in
    and_true (is_printable b) (list_all is_printable bs) (grind (arith, nat_tests)) (word_bytes bs both.1)

-- a lower word may be a name
lower_may : (text : Text) → is_word_from is_lower text ≡ true → may_name text ≡ true
lower_may [] h = absurd (cc)
lower_may (b ∷ bs) h =
    let both = and_both (is_lower b) (list_all is_word bs) h in
    let here = both.0 in
    and_true (is_printable b) (list_all is_printable bs) (grind (arith, nat_tests)) (word_bytes bs both.1)

-- what is known of a plain name
pub record IsPlain (name : Text) : Type 0 where
  pub lower : is_word_from is_lower name ≡ true
  pub unprefixed : has_prefix name ≡ false
  pub unreserved : is_reserved name ≡ false

pub plain_parts : (name : Text) → is_plain name ≡ true → IsPlain name
plain_parts name h =
    let last = and_both (is_word_from is_lower name && not (has_prefix name)) (not (is_reserved name)) h in
    let first = and_both (is_word_from is_lower name) (not (has_prefix name)) last.0 in
    record { lower = first.0; unprefixed = not_true (has_prefix name) first.1; unreserved = not_true (is_reserved name) last.1 }

-- the written form of a plain name, and of another one
pub isar_name-plain : (name : Text) → is_plain name ≡ true → isar_name name ≡ name
isar_name-plain name e = rw e

pub isar_name-other : (name : Text) → is_plain name ≡ false → isar_name name ≡ 120 ∷ 95 ∷ hex_text name
isar_name-other name e = rw e

-- a word without the prefix stands for itself
decoded-bare : (word : Text) → has_prefix word ≡ false → decoded word ≡ word
decoded-bare word e = rw e

-- the written form of a name stands for it
pub name_decoded : (name : Text) → IsNameText name → decoded (isar_name name) ≡ name
name_decoded name n = go (is_plain name) refl
  where
    go : (t : Bool) → is_plain name ≡ t → decoded (isar_name name) ≡ name
    go true e = ap decoded (isar_name-plain name e) ∙ decoded-bare name (plain_parts name e).unprefixed
    go false e = ap decoded (isar_name-other name e) ∙ unhexed-hex name (name_printable name n)

-- the same bytes
bytes_self : (xs : Text) → bytes_eq xs xs ≡ true
bytes_self xs = (bytes_eq-Decides xs xs).1 refl

-- the written form of a name is one
pub name_written : (name : Text) → IsNameText name → is_written (isar_name name) ≡ true
unfolding is_written
name_written name n =
    subst (λ back. (may_name back && bytes_eq (isar_name back) (isar_name name)) ≡ true) (sym (name_decoded name n))
    (and_true (may_name name) (bytes_eq (isar_name name) (isar_name name)) (name_tested name n) (bytes_self (isar_name name)))

-- what a word stands for that is the written form of a name
pub record IsNamed (word : Text) : Type 0 where
  pub name : IsNameText (decoded word)
  pub written : isar_name (decoded word) ≡ word

-- a word that is the written form of a name is that of the name that it stands for
pub written_named : (word : Text) → is_written word ≡ true → IsNamed word
unfolding is_written
written_named word h =
    let both = and_both (may_name (decoded word)) (bytes_eq (isar_name (decoded word)) word) h in
    record { name = name_from_test (decoded word) both.0; written = (bytes_eq-Decides (isar_name (decoded word)) word).0 both.1 }

-- two tests that say the same
alike : (s t : Bool) → (s ≡ true → t ≡ true) → (t ≡ true → s ≡ true) → s ≡ t
alike true t f g = sym (f refl)
alike false true f g = g refl
alike false false f g = refl

-- a word without the prefix is a written form where it is a plain name
pub written_bare : (word : Text) → has_prefix word ≡ false → is_plain word ≡ is_written word
unfolding is_written
written_bare word bare = alike (is_plain word) (is_written word)
    (λ plain.
    subst (λ back. (may_name back && bytes_eq (isar_name back) word) ≡ true) (sym (decoded-bare word bare))
    (and_true (may_name word) (bytes_eq (isar_name word) word) (lower_may word (plain_parts word plain).lower)
    ((bytes_eq-Decides (isar_name word) word).1 (isar_name-plain word plain))))
    (λ written. go (is_plain word) refl (sym (ap isar_name (decoded-bare word bare)) ∙ (written_named word written).written))
  where
    go : (t : Bool) → is_plain word ≡ t → isar_name word ≡ word → t ≡ true
    go true e same = refl
    go false e same = let prefixed : has_prefix word ≡ true = ap has_prefix (sym same ∙ isar_name-other word e) in absurd (cc)

-- a word with the prefix is one where digits follow it, of a name that is not plain
pub written_digits : (ds : Text) → is_written (120 ∷ 95 ∷ ds) ≡ true → (is_plain (unhexed ds) ≡ false) × (hex_text (unhexed ds) ≡ ds)
written_digits ds written = go (is_plain (unhexed ds)) refl
  where
    same : isar_name (unhexed ds) ≡ 120 ∷ 95 ∷ ds
    same = (written_named (120 ∷ 95 ∷ ds) written).written

    go : (t : Bool) → is_plain (unhexed ds) ≡ t → (is_plain (unhexed ds) ≡ false) × (hex_text (unhexed ds) ≡ ds)
    go true e =
        let bare = (plain_parts (unhexed ds) e).unprefixed in
        let prefixed : has_prefix (unhexed ds) ≡ true = ap has_prefix (sym (isar_name-plain (unhexed ds) e) ∙ same) in absurd (cc)
    go false e = let whole : (120 ∷ 95 ∷ hex_text (unhexed ds)) ≡ 120 ∷ 95 ∷ ds = sym (isar_name-other (unhexed ds) e) ∙ same in (e, cc)

-- those digits are of printable bytes
pub written_pairs : (ds : Text) → is_written (120 ∷ 95 ∷ ds) ≡ true → are_pairs is_printable ds ≡ true
written_pairs ds written =
    let n = name_printable (unhexed ds) (written_named (120 ∷ 95 ∷ ds) written).name in
    subst (λ (text : Text). are_pairs is_printable text ≡ true) (written_digits ds written).1
    (pairs_written is_printable (unhexed ds) n (printable_tested (unhexed ds) n))

-- where they are not, the word is no written form
pub unwritten_pairs : (ds : Text) → are_pairs is_printable ds ≡ false → false ≡ is_written (120 ∷ 95 ∷ ds)
unwritten_pairs ds h = sym (not_passes (is_written (120 ∷ 95 ∷ ds)) (λ written. let pairs = written_pairs ds written in cc))

-- where they are, it is one unless the name is plain
pub written_other : (ds : Text) → (length ds == 0) ≡ false → are_pairs is_printable ds ≡ true → not (is_plain (unhexed ds)) ≡ is_written (120 ∷ 95 ∷ ds)
unfolding is_written
written_other ds some pairs = alike (not (is_plain (unhexed ds))) (is_written (120 ∷ 95 ∷ ds))
    (λ other.
    and_true (may_name (unhexed ds)) (bytes_eq (isar_name (unhexed ds)) (120 ∷ 95 ∷ ds)) (may ds some pairs)
    ((bytes_eq-Decides (isar_name (unhexed ds)) (120 ∷ 95 ∷ ds)).1
    (isar_name-other (unhexed ds) (not_true (is_plain (unhexed ds)) other) ∙ ap (λ (text : Text). 120 ∷ 95 ∷ text) (hex-unhexed is_printable ds pairs))))
    (λ written. ap not (written_digits ds written).0)
  where
    may : (ds : Text) → (length ds == 0) ≡ false → are_pairs is_printable ds ≡ true → may_name (unhexed ds) ≡ true
    may [] some pairs = absurd (cc)
    may (b ∷ []) some pairs = absurd (cc)
    may (b ∷ c ∷ rest) some pairs = pairs_pass is_printable (b ∷ c ∷ rest) pairs

-- a text with the prefix
pub prefixed : (word : Text) → has_prefix word ≡ true → 120 ∷ 95 ∷ drop 2 word ≡ word
prefixed [] h = absurd (cc)
prefixed (b ∷ []) h = absurd (cc)
prefixed (b ∷ c ∷ rest) h =
    let both = and_both (b == 120) (c == 95) h in
    let first = number_same b 120 both.0 in
    let second = number_same c 95 both.1 in cc

-- whether digits spell a lower word, where their first byte is one of a to z
pub lower_spelled : (text : Text) (byte : ℕ) → 2 ≤ length text → are_pairs is_printable text ≡ true → byte ≡ byte_of (get_or text 0 0) (get_or text 1 0) →
    is_lower byte ≡ true → are_pairs is_word text ≡ is_word_from is_lower (unhexed text)
lower_spelled [] byte long pairs is lower = absurd (omega arith)
lower_spelled (b ∷ []) byte long pairs is lower = absurd (omega arith)
lower_spelled (b ∷ c ∷ rest) byte long pairs is lower =
    let first : is_lower (byte_of b c) ≡ true = ap is_lower (sym is) ∙ lower in
    pairs_tested is_printable is_word (b ∷ c ∷ rest) pairs ∙ rw first

-- what follows the prefix
pub behind_prefix : (word : Text) → take (length word - 2) (drop 2 word) ≡ drop 2 word
behind_prefix word = take_rest word 2

-- a word with the prefix, and what follows it
pub prefixed_whole : (word : Text) → has_prefix word ≡ true → 120 ∷ 95 ∷ take (length word - 2) (drop 2 word) ≡ word
prefixed_whole word h = ap (λ (text : Text). 120 ∷ 95 ∷ text) (behind_prefix word) ∙ prefixed word h

-- the digits of a written form, and the name that they spell
pub digits_pairs : (word : Text) → has_prefix word ≡ true → is_written word ≡ true → are_pairs is_printable (take (length word - 2) (drop 2 word)) ≡ true
digits_pairs word h written = written_pairs (take (length word - 2) (drop 2 word)) (ap is_written (prefixed_whole word h) ∙ written)

pub digits_named : (word : Text) → has_prefix word ≡ true → is_written word ≡ true → IsNameText (unhexed (take (length word - 2) (drop 2 word)))
digits_named word h written =
    (written_named (120 ∷ 95 ∷ take (length word - 2) (drop 2 word)) (ap is_written (prefixed_whole word h) ∙ written)).name

-- a written form without the prefix is a name
pub bare_named : (word : Text) → has_prefix word ≡ false → is_written word ≡ true → IsNameText word
bare_named word bare written = subst IsNameText (decoded-bare word bare) (written_named word written).name

-- the prefix alone is no written form
pub prefix_alone : (ds : Text) → (length ds == 0) ≡ true → false ≡ is_written (120 ∷ 95 ∷ ds)
unfolding is_written
prefix_alone [] h = refl
prefix_alone (d ∷ ds) h = absurd (let none = number_same (length (d ∷ ds)) 0 h in omega (arith, none))

-- the words of the language are read from their digits
pub reserved_spelled : (ds : Text) → are_pairs is_printable ds ≡ true →
    list_any (λ word. bytes_eq ds (hex_text word)) reserved_words ≡ is_reserved (unhexed ds)
reserved_spelled ds pairs = words_spelled ds reserved_words (hex-unhexed is_printable ds pairs)
    (refl, (refl, (refl, (refl, (refl, (refl, (refl, (refl, (refl, (refl, (refl, (refl, (refl, (refl, (refl, (refl, (refl, (refl, (refl, tt)))))))))))))))))))
