-- The marks of tokens: of fixed texts, names, labels and numbers; and the tokens of a text as the grammar sees them.
use Rattle.std.specs.Prelude.{◌≡◌, ℕ, zero, suc, ◌+◌, ◌-◌, ◌<◌, ◌≤◌, ◌==◌, ◌&&◌, ◌||◌, not, nat_le, Bool, true, false, List, [], ◌∷◌, ◌++◌, map, length, drop, slice_get, option_map, find, codes, Option, Some, None, Result, Ok, Err, IfOk, if◌then◌else◌}
use Rattle.std.specs.Fmt.{decimal}
use Rattle.std.specs.List.{list_all}
use Rattle.std.specs.Str.{bytes_eq}
use Rattle.std.proofs.Common.{refl, sym, ◌∙◌, ap, subst, arith, get_or, inl, inr}
use Rattle.std.proofs.lemmas.Bool.{le-leb}
use Rattle.std.proofs.lemmas.Bool.Decides.{nat_tests}
use Rattle.std.proofs.lemmas.Slice.Eq.{bytes_eq-Decides}
use Rattle.std.proofs.lemmas.List.{length-map}
use Rattle.std.proofs.lemmas.Option.{slice_get-map, slice_get_cases, slice_get_past}
use Rattle.text_core.specs.Names.{Text, is_lower, is_upper, is_digit, is_word, is_printable, is_word_from}
use Rattle.text_core.specs.NameTexts.{IsNameText}
use Rattle.text_core.specs.Numbered.{text_or_empty}
use Rattle.text_core.proofs.Laws.{and_both, and_true, number_same, not_both, value_same}
use Rattle.proof_text.specs.Marks.{most_number}
use Rattle.isar_text.specs.declared.fixed.Fixed as Fixed
use Rattle.isar_text.specs.declared.fixed.Fixed.TheVariants as fixed
use Rattle.isar_text.specs.declared.mark.Mark as Mark
use Rattle.isar_text.specs.declared.mark.Mark.TheVariants as mark
use Rattle.isar_text.specs.declared.mark.Token.{Token as Seen}
use Rattle.isar_text.specs.declared.part.Taker.TheVariants as taker
use Rattle.isar_text.specs.Digits.{is_hex, is_pair, are_pairs}
use Rattle.isar_text.specs.Fixed.{fixed_text, fixed_of, all_fixed}
use Rattle.isar_text.specs.Grammar.{mark_taken}
use Rattle.isar_text.specs.Heads.{line_label, form_label}
use Rattle.isar_text.specs.Marks.{number_of, number_mark, line_mark, form_mark, other_mark, fixed_or, mark_of, marked_from, marked}
use Rattle.isar_text.specs.Names.{has_prefix, is_written, isar_name, decoded}
use Rattle.isar_text.specs.Tokens.{Token}
use Rattle.isar_text.specs.Values.{marked_number, texts_of, name_in}
use Rattle.isar_text.proofs.NamesRead.{plain_parts, prefixed, written_bare, written_pairs, name_written}
use Rattle.isar_text.proofs.Decimals.{IsDecimal, decimal_known, number_of-decimal}

-- what is found passes the test
find_passes : {X : Type 0} (test : X → Bool) (xs : List X) (x : X) → find test xs ≡ Some x → test x ≡ true
find_passes test [] x e = absurd (cc)
find_passes test (y ∷ ys) x e = by_test (test y) refl e (find_passes test ys x)
  where
    by_test : (b : Bool) → test y ≡ b → (if b then Some y else find test ys) ≡ Some x → (find test ys ≡ Some x → test x ≡ true) → test x ≡ true
    by_test true is e later = ap test (sym (value_same e)) ∙ is
    by_test false is e later = later e

-- a text that is found is that of its token
fixed_found : (text : Text) (f : Fixed.Fixed) → fixed_of text ≡ Some f → text ≡ fixed_text f
unfolding fixed_of
fixed_found text f e = (bytes_eq-Decides text (fixed_text f)).0 (find_passes (λ fixed. bytes_eq text (fixed_text fixed)) all_fixed f e)

-- a text that passes a test which no fixed text passes is not fixed
unfixed : (test : Text → Bool) → ((f : Fixed.Fixed) → test (fixed_text f) ≡ false) → (text : Text) → test text ≡ true → fixed_of text ≡ None
unfixed test none text passes = go (fixed_of text) refl
  where
    go : (found : Option Fixed.Fixed) → fixed_of text ≡ found → found ≡ None
    go None e = refl
    go (Some f) e = absurd (not_both (test text) passes (ap test (fixed_found text f e) ∙ none f))

-- the mark of a text that is not fixed
mark_of-other : (forms : ℕ) (text : Text) → fixed_of text ≡ None → mark_of forms text ≡ other_mark forms text
mark_of-other forms text e = ap (λ found. fixed_or found (other_mark forms text)) e

-- a fixed text is that of its token
itself : (f : Fixed.Fixed) → fixed_of (fixed_text f) ≡ Some f
unfolding fixed_of
itself fixed.Have = refl
itself fixed.Obtain = refl
itself fixed.Where = refl
itself fixed.Using = refl
itself fixed.By = refl
itself fixed.Blast = refl
itself fixed.Show = refl
itself fixed.Proof = refl
itself fixed.Elim = refl
itself fixed.DisjE = refl
itself fixed.Assume = refl
itself fixed.Next = refl
itself fixed.Qed = refl
itself fixed.As = refl
itself fixed.Efq = refl
itself fixed.True = refl
itself fixed.False = refl
itself fixed.Thesis = refl
itself fixed.Quote = refl
itself fixed.Colon = refl
itself fixed.OpenComment = refl
itself fixed.CloseComment = refl
itself fixed.OpenParenthesis = refl
itself fixed.CloseParenthesis = refl
itself fixed.OpenBracket = refl
itself fixed.CloseBracket = refl
itself fixed.Comma = refl
itself fixed.Ampersand = refl
itself fixed.Bar = refl
itself fixed.Tilde = refl
itself fixed.NotEqual = refl
itself fixed.Equal = refl

-- the mark of a fixed text
pub fixed_marked : (forms : ℕ) (f : Fixed.Fixed) → mark_of forms (fixed_text f) ≡ mark.Fixed f
fixed_marked forms f = ap (λ found. fixed_or found (other_mark forms (fixed_text f))) (itself f)

-- no fixed text is the written form of a name
fixed_unwritten : (f : Fixed.Fixed) → is_written (fixed_text f) ≡ false
unfolding is_written
fixed_unwritten fixed.Have = refl
fixed_unwritten fixed.Obtain = refl
fixed_unwritten fixed.Where = refl
fixed_unwritten fixed.Using = refl
fixed_unwritten fixed.By = refl
fixed_unwritten fixed.Blast = refl
fixed_unwritten fixed.Show = refl
fixed_unwritten fixed.Proof = refl
fixed_unwritten fixed.Elim = refl
fixed_unwritten fixed.DisjE = refl
fixed_unwritten fixed.Assume = refl
fixed_unwritten fixed.Next = refl
fixed_unwritten fixed.Qed = refl
fixed_unwritten fixed.As = refl
fixed_unwritten fixed.Efq = refl
fixed_unwritten fixed.True = refl
fixed_unwritten fixed.False = refl
fixed_unwritten fixed.Thesis = refl
fixed_unwritten fixed.Quote = refl
fixed_unwritten fixed.Colon = refl
fixed_unwritten fixed.OpenComment = refl
fixed_unwritten fixed.CloseComment = refl
fixed_unwritten fixed.OpenParenthesis = refl
fixed_unwritten fixed.CloseParenthesis = refl
fixed_unwritten fixed.OpenBracket = refl
fixed_unwritten fixed.CloseBracket = refl
fixed_unwritten fixed.Comma = refl
fixed_unwritten fixed.Ampersand = refl
fixed_unwritten fixed.Bar = refl
fixed_unwritten fixed.Tilde = refl
fixed_unwritten fixed.NotEqual = refl
fixed_unwritten fixed.Equal = refl

-- what begins a number or a label: a digit, A (65) or L (76)
abbrev begins_number : Text → Bool
begins_number [] = false
begins_number (b ∷ bs) = is_digit b || b == 65 || b == 76

-- no fixed text begins so
fixed_no_number : (f : Fixed.Fixed) → begins_number (fixed_text f) ≡ false
fixed_no_number fixed.Have = refl
fixed_no_number fixed.Obtain = refl
fixed_no_number fixed.Where = refl
fixed_no_number fixed.Using = refl
fixed_no_number fixed.By = refl
fixed_no_number fixed.Blast = refl
fixed_no_number fixed.Show = refl
fixed_no_number fixed.Proof = refl
fixed_no_number fixed.Elim = refl
fixed_no_number fixed.DisjE = refl
fixed_no_number fixed.Assume = refl
fixed_no_number fixed.Next = refl
fixed_no_number fixed.Qed = refl
fixed_no_number fixed.As = refl
fixed_no_number fixed.Efq = refl
fixed_no_number fixed.True = refl
fixed_no_number fixed.False = refl
fixed_no_number fixed.Thesis = refl
fixed_no_number fixed.Quote = refl
fixed_no_number fixed.Colon = refl
fixed_no_number fixed.OpenComment = refl
fixed_no_number fixed.CloseComment = refl
fixed_no_number fixed.OpenParenthesis = refl
fixed_no_number fixed.CloseParenthesis = refl
fixed_no_number fixed.OpenBracket = refl
fixed_no_number fixed.CloseBracket = refl
fixed_no_number fixed.Comma = refl
fixed_no_number fixed.Ampersand = refl
fixed_no_number fixed.Bar = refl
fixed_no_number fixed.Tilde = refl
fixed_no_number fixed.NotEqual = refl
fixed_no_number fixed.Equal = refl

-- digits may go on with a word
pairs_words : (test : ℕ → Bool) (ds : Text) → are_pairs test ds ≡ true → list_all is_word ds ≡ true
pairs_words test [] h = refl
pairs_words test (b ∷ []) h = absurd (cc)
pairs_words test (b ∷ c ∷ rest) h =
    let both = and_both (is_pair test b c) (are_pairs test rest) h in
    let pair = and_both (is_hex b && is_hex c) _ both.0 in
    let digits = and_both (is_hex b) (is_hex c) pair.0 in
    and_true (is_word b) (is_word c && list_all is_word rest) (word b digits.0)
    (and_true (is_word c) (list_all is_word rest) (word c digits.1) (pairs_words test rest both.1))
  where
    word : (b : ℕ) → is_hex b ≡ true → is_word b ≡ true
    word b is = grind (arith, nat_tests)

-- the written form of a name is a lower word
pub written_lower : (word : Text) → is_written word ≡ true → is_word_from is_lower word ≡ true
written_lower word written = go (has_prefix word) refl
  where
    go : (t : Bool) → has_prefix word ≡ t → is_word_from is_lower word ≡ true
    go true e =
        let whole = prefixed word e in
        subst (λ (text : Text). is_word_from is_lower text ≡ true) whole
        (pairs_words is_printable (drop 2 word) (written_pairs (drop 2 word) (ap is_written whole ∙ written)))
    go false e = (plain_parts word (written_bare word e ∙ written)).lower

-- the mark of the written form of a name
written_marked : (forms : ℕ) (word : Text) → is_word_from is_lower word ≡ true → is_written word ≡ true → other_mark forms word ≡ mark.Name
written_marked forms [] lower written = absurd (cc)
written_marked forms (b ∷ bs) lower written =
    let first = (and_both (is_lower b) (list_all is_word bs) lower).0 in
    let no_form : (b == 65) ≡ false = grind (arith, nat_tests) in
    let no_line : (b == 76) ≡ false = grind (arith, nat_tests) in
    let no_digit : is_digit b ≡ false = grind (arith, nat_tests) in
    rw (no_form, no_line, no_digit, written)

pub name_marked : (forms : ℕ) (name : Text) → IsNameText name → mark_of forms (isar_name name) ≡ mark.Name
name_marked forms name named =
    let written = name_written name named in
    mark_of-other forms (isar_name name) (unfixed is_written fixed_unwritten (isar_name name) written) ∙
    written_marked forms (isar_name name) (written_lower (isar_name name) written) written

-- the marks of labels
pub line_marked : (forms n : ℕ) → n ≤ most_number → mark_of forms (line_label n) ≡ mark.Line n
line_marked forms n fits =
    mark_of-other forms (line_label n) (unfixed begins_number fixed_no_number (line_label n) refl) ∙ ap line_mark (number_of-decimal n fits)

pub form_marked : (forms i : ℕ) → i < forms → i + 1 ≤ most_number → mark_of forms (form_label i) ≡ mark.Form (i + 1)
form_marked forms i there fits =
    mark_of-other forms (form_label i) (unfixed begins_number fixed_no_number (form_label i) refl) ∙
    (ap (form_mark forms) (number_of-decimal (i + 1) fits) ∙
    ap (λ (t : Bool). if t then mark.Form (i + 1) else mark.Other)
    (and_true (nat_le 1 (i + 1)) (nat_le (i + 1) forms) (le-leb 1 (i + 1) (omega arith)) (le-leb (i + 1) forms (omega arith))))

-- the mark of a number
digits_marked : (forms n : ℕ) (ds : Text) → IsDecimal n ds → number_of ds ≡ Some n → mark_of forms ds ≡ mark.Number n
digits_marked forms n [] known read = absurd (let some = known.some in omega arith)
digits_marked forms n (b ∷ bs) known read =
    let digit = (and_both (is_digit b) (list_all is_digit bs) known.digits).0 in
    let no_form : (b == 65) ≡ false = grind (arith, nat_tests) in
    let no_line : (b == 76) ≡ false = grind (arith, nat_tests) in
    let begins : begins_number (b ∷ bs) ≡ true = ap (λ (t : Bool). t || b == 65 || b == 76) digit in
    mark_of-other forms (b ∷ bs) (unfixed begins_number fixed_no_number (b ∷ bs) begins) ∙
    (rw (no_form, no_line, digit) refl ∙ ap number_mark read)

pub number_marked : (forms n : ℕ) → n ≤ most_number → mark_of forms (decimal n) ≡ mark.Number n
number_marked forms n fits = digits_marked forms n (decimal n) (decimal_known n fits) (number_of-decimal n fits)

-- which texts have the marks of names and of labels of forms

-- whether a mark is a name's
abbrev is_name : Mark.Mark → Bool
is_name mark.Name = true
is_name _ = false

-- a text with a name's mark is the written form of one
pub named_written : (forms : ℕ) (text : Text) → mark_of forms text ≡ mark.Name → is_written text ≡ true
named_written forms text e = go (fixed_of text) (ap is_name e)
  where
    from_number : (number : Option ℕ) → is_name (form_mark forms number) ≡ false
    from_number None = refl
    from_number (Some n) = by_test (nat_le 1 n && nat_le n forms)
      where
        by_test : (t : Bool) → is_name (if t then mark.Form n else mark.Other) ≡ false
        by_test true = refl
        by_test false = refl

    from_line : (number : Option ℕ) → is_name (line_mark number) ≡ false
    from_line None = refl
    from_line (Some n) = refl

    from_digits : (number : Option ℕ) → is_name (number_mark number) ≡ false
    from_digits None = refl
    from_digits (Some n) = refl

    from_other : (text : Text) → is_name (other_mark forms text) ≡ true → is_written text ≡ true
    from_other [] h = absurd (cc)
    from_other (b ∷ bs) h = by_first (b == 65) (b == 76) (is_digit b) (is_written (b ∷ bs)) h
      where
        by_first : (form line digit written : Bool) →
            is_name (if form then form_mark forms (number_of bs) else (if line then line_mark (number_of bs) else
            (if digit then number_mark (number_of (b ∷ bs)) else (if written then mark.Name else mark.Other)))) ≡ true → written ≡ true
        by_first true l d w h = absurd (not_both _ h (from_number (number_of bs)))
        by_first false true d w h = absurd (not_both _ h (from_line (number_of bs)))
        by_first false false true w h = absurd (not_both _ h (from_digits (number_of (b ∷ bs))))
        by_first false false false true h = refl
        by_first false false false false h = absurd (cc)

    go : (found : Option Fixed.Fixed) → is_name (fixed_or found (other_mark forms text)) ≡ true → is_written text ≡ true
    go None h = from_other text h
    go (Some f) h = absurd (cc)

-- the number of a form's label, where the mark is one, is that of a form
abbrev FormIsThere : ℕ → Mark.Mark → Type 0
FormIsThere forms (mark.Form i) = (1 ≤ i) × (i ≤ forms)
FormIsThere forms _ = Unit {0}

form_there : (forms : ℕ) (text : Text) → FormIsThere forms (mark_of forms text)
form_there forms text = go (fixed_of text)
  where
    from_number : (number : Option ℕ) → FormIsThere forms (form_mark forms number)
    from_number None = tt
    from_number (Some n) = by_test (nat_le 1 n) (nat_le n forms) refl refl
      where
        by_test : (low high : Bool) → nat_le 1 n ≡ low → nat_le n forms ≡ high → FormIsThere forms (if low && high then mark.Form n else mark.Other)
        by_test true true e f = (grind (arith, nat_tests), grind (arith, nat_tests))
        by_test true false e f = tt
        by_test false high e f = tt

    from_line : (number : Option ℕ) → FormIsThere forms (line_mark number)
    from_line None = tt
    from_line (Some n) = tt

    from_digits : (number : Option ℕ) → FormIsThere forms (number_mark number)
    from_digits None = tt
    from_digits (Some n) = tt

    from_other : (text : Text) → FormIsThere forms (other_mark forms text)
    from_other [] = tt
    from_other (b ∷ bs) = by_first (b == 65) (b == 76) (is_digit b) (is_written (b ∷ bs))
      where
        by_first : (form line digit written : Bool) →
            FormIsThere forms (if form then form_mark forms (number_of bs) else (if line then line_mark (number_of bs) else
            (if digit then number_mark (number_of (b ∷ bs)) else (if written then mark.Name else mark.Other))))
        by_first true l d w = from_number (number_of bs)
        by_first false true d w = from_line (number_of bs)
        by_first false false true w = from_digits (number_of (b ∷ bs))
        by_first false false false true = tt
        by_first false false false false = tt

    go : (found : Option Fixed.Fixed) → FormIsThere forms (fixed_or found (other_mark forms text))
    go None = from_other text
    go (Some f) = tt

-- the tokens as the grammar sees them

-- a token with its number
abbrev pub seen_as : ℕ → ℕ → Token → Seen
seen_as forms n t = record { mark = mark_of forms t.text; number = n }

-- there is one for each token
pub marked_length : (forms n : ℕ) (ts : List Token) → length (marked_from forms n ts) ≡ length ts
marked_length forms n [] = refl
marked_length forms n (t ∷ ts) = ap suc (marked_length forms (n + 1) ts)

-- the one with a number is the token with that number
marked_at : (forms n : ℕ) (ts : List Token) (i : ℕ) (t : Token) → slice_get ts i ≡ Some t →
    slice_get (marked_from forms n ts) i ≡ Some (seen_as forms (n + i) t)
marked_at forms n [] i t e = absurd (cc)
marked_at forms n (u ∷ ts) zero t e =
    let same : u ≡ t = value_same e in
    let here : n ≡ n + 0 = omega arith in
    ap (λ (v : Token). Some (seen_as forms n v)) same ∙ ap (λ (m : ℕ). Some (seen_as forms m t)) here
marked_at forms n (u ∷ ts) (suc i) t e =
    let there : (n + 1) + i ≡ n + suc i = omega arith in
    marked_at forms (n + 1) ts i t e ∙ ap (λ (m : ℕ). Some (seen_as forms m t)) there

-- the same, numbered from 0
pub marked_get : (forms : ℕ) (ts : List Token) (i : ℕ) (t : Token) → slice_get ts i ≡ Some t →
    slice_get (marked forms ts) i ≡ Some (seen_as forms i t)
marked_get forms ts i t e =
    let same : 0 + i ≡ i = omega arith in
    marked_at forms 0 ts i t e ∙ ap (λ (m : ℕ). Some (seen_as forms m t)) same

-- which token the one with a number is
pub got_marked : (forms : ℕ) (ts : List Token) (i : ℕ) (token : Seen) → slice_get (marked forms ts) i ≡ Some token →
    (t : Token) × (slice_get ts i ≡ Some t) × (token ≡ seen_as forms i t)
got_marked forms ts i token e = elim ((slice_get_cases ts i).1) [
  | inl there ↦ (there.0, there.2, value_same (sym e ∙ marked_get forms ts i there.0 there.2))
  | inr past ↦
      let few = past.0 in
      let none : slice_get (marked forms ts) i ≡ None = slice_get_past (marked forms ts) i (omega (arith, few, marked_length forms 0 ts)) in
      absurd (cc)
]

-- a token's number is its place
pub marked_number_at : (forms : ℕ) (ts : List Token) (i : ℕ) (token : Seen) → slice_get (marked forms ts) i ≡ Some token → token.number ≡ i
marked_number_at forms ts i token at = ap (λ (token : Seen). token.number) (got_marked forms ts i token at).2

-- the token with this text
pub mark_made : (forms : ℕ) (ts : List Token) (i : ℕ) (text : Text) → slice_get (texts_of ts) i ≡ Some text →
    slice_get (marked forms ts) i ≡ Some (record { mark = mark_of forms text; number = i })
mark_made forms ts i text texts = elim ((slice_get_cases ts i).1) [
  | inl there ↦
      let t : Token = there.0 in
      let at : slice_get ts i ≡ Some t = there.2 in
      let same : t.text ≡ text =
      value_same (sym (slice_get-map (λ (t : Token). t.text) ts i ∙ ap (option_map (λ (t : Token). t.text)) at) ∙ texts) in
      marked_get forms ts i t at ∙ ap (λ (text : Text). Some (record { mark = mark_of forms text; number = i })) same
  | inr past ↦
      let none = slice_get-map (λ (t : Token). t.text) ts i ∙ ap (option_map (λ (t : Token). t.text)) past.1 in
      absurd (cc)
]

-- the number of a token that is seen there is below theirs
pub seen_within : (forms : ℕ) (ts : List Token) (i : ℕ) (token : Seen) → slice_get (marked forms ts) i ≡ Some token → i < length ts
seen_within forms ts i token at = elim ((slice_get_cases ts i).1) [
  | inl there ↦ there.1
  | inr past ↦
      let few = past.0 in
      let none : slice_get (marked forms ts) i ≡ None = slice_get_past (marked forms ts) i (omega (arith, few, marked_length forms 0 ts)) in
      absurd (cc)
]

-- the text of a token that is seen as a name is the written form of one
pub seen_written : (forms : ℕ) (ts : List Token) (i : ℕ) (token : Seen) (text : Text) → slice_get (marked forms ts) i ≡ Some token →
    slice_get (texts_of ts) i ≡ Some text → token.mark ≡ mark.Name → is_written text ≡ true
seen_written forms ts i token text at texts named =
    let same : token ≡ record { mark = mark_of forms text; number = i } = value_same (sym at ∙ mark_made forms ts i text texts) in
    named_written forms text (sym (ap (λ (token : Seen). token.mark) same) ∙ named)

-- the name of such a token is what its text stands for
pub name_seen : {E : Type 0} (forms : ℕ) (ts : List Token) (i : ℕ) (token : Seen) (text : Text) → slice_get (marked forms ts) i ≡ Some token →
    slice_get (texts_of ts) i ≡ Some text → (result : Result Text E) → IfOk result (λ name. name ≡ decoded text) → IfOk result (λ name. name ≡ name_in ts token)
name_seen forms ts i token text at texts (Ok name) read =
    read ∙ sym (ap (λ (n : ℕ). decoded (text_or_empty (slice_get (texts_of ts) n))) (marked_number_at forms ts i token at) ∙
    ap (λ (found : Option Text). decoded (text_or_empty found)) texts)
name_seen forms ts i token text at texts (Err e) read = tt

-- the number of a token that is seen as the label of a form
pub form_seen : (forms : ℕ) (ts : List Token) (i : ℕ) (token : Seen) → slice_get (marked forms ts) i ≡ Some token →
    mark_taken taker.Form token.mark ≡ true → (1 ≤ marked_number token.mark) × (marked_number token.mark ≤ forms)
form_seen forms ts i token at form =
    let (t, got, same) = got_marked forms ts i token at in
    known token.mark (subst (FormIsThere forms) (sym (ap (λ (token : Seen). token.mark) same)) (form_there forms t.text)) form
  where
    known : (m : Mark.Mark) → FormIsThere forms m → mark_taken taker.Form m ≡ true → (1 ≤ marked_number m) × (marked_number m ≤ forms)
    known (mark.Form n) there h = there
    known (mark.Fixed f) there h = absurd (cc)
    known mark.Name there h = absurd (cc)
    known (mark.Line n) there h = absurd (cc)
    known (mark.Number n) there h = absurd (cc)
    known mark.Other there h = absurd (cc)
