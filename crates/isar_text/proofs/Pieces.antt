-- Pieces of a text and the tokens that they give, in front of each rest that may follow.
use Rattle.std.proofs.Common.{◌≡◌, ℕ, ◌+◌, ◌<◌, ◌≤◌, ◌||◌, Bool, true, false, not, List, [], ◌∷◌, ◌++◌, length, refl, ap, sym, ◌∙◌, subst, arith, append_assoc, length-append, add-zero}
use Rattle.std.specs.Prelude.{None, if◌then◌else◌}
use Rattle.std.specs.Fmt.{decimal}
use Rattle.std.specs.List.{list_all, prefix_len}
use Rattle.std.proofs.lemmas.Bool.Decides.{nat_tests}
use Rattle.text_core.specs.Names.{Text, is_lower, is_upper, is_digit, is_word, is_word_from, begins_with}
use Rattle.text_core.specs.NameTexts.{IsNameText}
use Rattle.text_core.proofs.Laws.{and_both, and_true, not_true}
use Rattle.tptp_lexer.proofs.Laws.{stops, Any, NoWord}
use Rattle.proof_text.specs.Marks.{most_number}
use Rattle.isar_text.specs.Heads.{line_label, form_label}
use Rattle.isar_text.specs.Names.{isar_name}
use Rattle.isar_text.specs.Tokens.{Token, token_len, IsFirst, Reads, EndsBy, is_blank, blank, token}
use Rattle.isar_text.proofs.NamesRead.{name_written}
use Rattle.isar_text.proofs.Marked.{written_lower}
use Rattle.isar_text.proofs.Decimals.{IsDecimal, decimal_known, digits_words}

-- no star (42) follows
abbrev pub NoStar : Text → Type 0
NoStar rest = begins_with 42 rest ≡ false

-- no equality sign (61) follows
abbrev pub NoEqual : Text → Type 0
NoEqual rest = begins_with 61 rest ≡ false

-- the piece gives tokens, of which S holds, in front of each rest that may follow
pub record Gives (may : Text → Type 0) (piece : Text) (S : List Token → Type 0) : Type 0 where
  pub give : (at : ℕ) (rest : Text) → may rest → (ts : List Token) × S ts ×
      ((us : List Token) → Reads (EndsBy None) (at + length piece) rest us → Reads (EndsBy None) at (piece ++ rest) (ts ++ us))

-- the tokens of two pieces
abbrev pub Both : (List Token → Type 0) → (List Token → Type 0) → List Token → Type 0
Both S T ts = (us : List Token) × (vs : List Token) × S us × T vs × (ts ≡ us ++ vs)

-- a token with this text
abbrev pub IsText : Text → List Token → Type 0
IsText text ts = (t : Token) × (t.text ≡ text) × (ts ≡ t ∷ [])

-- no bytes give no tokens
pub nothing : Gives Any [] (λ ts. ts ≡ [])
nothing = record { give = λ at rest may. ([], refl, λ us r. subst (λ n. Reads (EndsBy None) n rest us) (add-zero at) r) }

-- a blank gives no token
pub one_blank : (b : ℕ) → is_blank b ≡ true → Gives Any (b ∷ []) (λ ts. ts ≡ [])
one_blank b is = record { give = λ at rest may. ([], refl, λ us r. blank is r) }

-- the token at the front gives itself
pub one_token : {may : Text → Type 0} (text : Text) → ((rest : Text) → may rest → IsFirst text rest) → Gives may text (IsText text)
one_token text first = record { give = λ at rest may. (record { start = at; text = text } ∷ [], (record { start = at; text = text }, refl, refl), λ us r. token text rest refl (first rest may) r) }

-- the same tokens, as other ones
pub seen : {may : Text → Type 0} {piece : Text} {S T : List Token → Type 0} → ((ts : List Token) → S ts → T ts) → Gives may piece S → Gives may piece T
seen f p = record { give = λ at rest may. let g = p.give at rest may in (g.0, f g.0 g.1, g.2) }

-- in front of fewer rests
pub before : {may fewer : Text → Type 0} {piece : Text} {S : List Token → Type 0} → ((rest : Text) → fewer rest → may rest) → Gives may piece S → Gives fewer piece S
before f p = record { give = λ at rest may. p.give at rest (f rest may) }

-- one piece and then another, which may follow it
pub followed : {first second : Text → Type 0} {x y : Text} {S T : List Token → Type 0} → Gives first x S → Gives second y T → ((rest : Text) → second rest → first (y ++ rest)) → Gives second (x ++ y) (Both S T)
followed {x = x} {y = y} p q follows = record {
  give = λ at rest may.
      let b = q.give (at + length x) rest may in
      let a = p.give at (y ++ rest) (follows rest may) in (
        a.0 ++ b.0,
        (a.0, b.0, a.1, b.1, refl),
        λ us r. rw (append_assoc x y rest, append_assoc a.0 b.0 us) (a.2 (b.0 ++ us) (b.2 us (subst (λ n. Reads (EndsBy None) n rest us) (let l = length-append x y in omega arith) r))),
      );
}

-- how many bytes of a class a run has, where its rest does not go on
run_counted : (p : ℕ → Bool) (run rest : Text) → list_all p run ≡ true → stops p rest ≡ true → prefix_len p (run ++ rest) ≡ length run
run_counted p [] [] all stopped = refl
run_counted p [] (c ∷ cs) all stopped = rw (not_true (p c) stopped)
run_counted p (b ∷ bs) rest all stopped =
    let both = and_both (p b) (list_all p bs) all in
    rw (both.0, run_counted p bs rest both.1 stopped) (omega arith)

-- a word is the token at the front
word_first : (w rest : Text) → is_word_from (λ b. is_lower b || is_upper b) w ≡ true → NoWord rest → IsFirst w rest
unfolding token_len
word_first [] rest word may = absurd (cc)
word_first (b ∷ bs) rest word may =
    let both = and_both (is_lower b || is_upper b) (list_all is_word bs) word in
    record { some = omega arith; len = rw (both.0, run_counted is_word bs rest both.1 may) (omega arith) }

pub word_gives : (w : Text) → is_word_from (λ b. is_lower b || is_upper b) w ≡ true → Gives NoWord w (IsText w)
word_gives w word = one_token w (λ rest may. word_first w rest word may)

-- what does not go on with a word does not go on with a number
no_digit : (rest : Text) → NoWord rest → stops is_digit rest ≡ true
no_digit [] may = refl
no_digit (c ∷ cs) may = grind (arith, nat_tests)

-- digits are the token at the front
digits_first : (n : ℕ) (ds rest : Text) → IsDecimal n ds → NoWord rest → IsFirst ds rest
unfolding token_len
digits_first n [] rest known may = absurd (let some = known.some in omega arith)
digits_first n (b ∷ bs) rest known may =
    let both = and_both (is_digit b) (list_all is_digit bs) known.digits in
    let digit = both.0 in
    let other : (is_lower b || is_upper b) ≡ false = grind (arith, nat_tests) in
    record { some = omega arith; len = rw (other, digit, run_counted is_digit bs rest both.1 (no_digit rest may)) (omega arith) }

pub number_gives : (n : ℕ) → n ≤ most_number → Gives NoWord (decimal n) (IsText (decimal n))
number_gives n fits = one_token (decimal n) (λ rest may. digits_first n (decimal n) rest (decimal_known n fits) may)

-- a lower word begins with a letter
lower_letter : (w : Text) → is_word_from is_lower w ≡ true → is_word_from (λ b. is_lower b || is_upper b) w ≡ true
lower_letter [] h = absurd (cc)
lower_letter (b ∷ bs) h =
    let both = and_both (is_lower b) (list_all is_word bs) h in
    and_true (is_lower b || is_upper b) (list_all is_word bs) (ap (λ (t : Bool). t || is_upper b) both.0) both.1

-- the written form of a name
pub name_gives : (name : Text) → IsNameText name → Gives NoWord (isar_name name) (IsText (isar_name name))
name_gives name named = word_gives (isar_name name) (lower_letter (isar_name name) (written_lower (isar_name name) (name_written name named)))

-- labels
pub line_gives : (n : ℕ) → n ≤ most_number → Gives NoWord (line_label n) (IsText (line_label n))
line_gives n fits = word_gives (line_label n) (digits_words (decimal n) (decimal_known n fits).digits)

pub form_gives : (i : ℕ) → i + 1 ≤ most_number → Gives NoWord (form_label i) (IsText (form_label i))
form_gives i fits = word_gives (form_label i) (digits_words (decimal (i + 1)) (decimal_known (i + 1) fits).digits)
