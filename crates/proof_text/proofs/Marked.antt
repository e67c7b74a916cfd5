-- The tokens of a text as the grammar sees them: how many there are, and the one with a number.
use Rattle.std.specs.Prelude.{option_map, find, if◌then◌else◌, IsTrue, IsFalse, IfOk, Result, Ok, Err}
use Rattle.std.proofs.Common.{◌≡◌, ℕ, zero, suc, ◌+◌, Bool, true, false, List, [], ◌∷◌, length, slice_get, Option, Some, None, refl, ap, sym, ◌∙◌, arith, inl, inr, subst}
use Rattle.std.specs.List.{AllByRecursion}
use Rattle.std.specs.Str.{bytes_eq}
use Rattle.std.proofs.lemmas.Bool.{false≢true}
use Rattle.std.proofs.lemmas.Option.{slice_get-map, slice_get_cases, slice_get_past}
use Rattle.text_core.specs.Names.{Text}
use Rattle.text_core.specs.Numbered.{text_or_empty}
use Rattle.text_core.proofs.Laws.{value_same}
use Rattle.tptp_lexer.specs.declared.kind.Kind.{Kind}
use Rattle.tptp_lexer.specs.declared.kind.Kind.TheVariants as kind
use Rattle.tptp_lexer.specs.Tokens.{Token as LexToken}
use Rattle.tptp_lexer.specs.Columns.{kinds_of, texts_of, names_of, is_name as kind_names}
use Rattle.proof_text.specs.declared.fixed.Fixed as Fixed
use Rattle.proof_text.specs.declared.mark.Mark as Mark
use Rattle.proof_text.specs.declared.mark.Mark.TheVariants as mark
use Rattle.proof_text.specs.declared.mark.Token.{Token}
use Rattle.proof_text.specs.declared.part.Naming as Naming
use Rattle.proof_text.specs.declared.part.Naming.TheVariants as naming
use Rattle.proof_text.specs.Fixed.{dollar_of, dollar_words, fixed_text, is_keyword}
use Rattle.proof_text.specs.Marks.{mark_of, marked, marked_from, fixed_or}
use Rattle.proof_text.specs.Grammar.{is_word, is_name, names}
use Rattle.proof_text.specs.Values.{name_in}

-- a token with its number, as the grammar sees it
abbrev pub seen_as : ℕ → LexToken → Token
seen_as n t = record { mark = mark_of t.kind t.text; number = n }

-- there is one for each token
pub marked_length : (n : ℕ) (ts : List LexToken) → length (marked_from n ts) ≡ length ts
marked_length n [] = refl
marked_length n (t ∷ ts) = ap suc (marked_length (n + 1) ts)

-- the one with a number is the token with that number
marked_at : (n : ℕ) (ts : List LexToken) (i : ℕ) (t : LexToken) → slice_get ts i ≡ Some t →
    slice_get (marked_from n ts) i ≡ Some (seen_as (n + i) t)
marked_at n [] i t e = absurd (cc)
marked_at n (u ∷ ts) zero t e =
    let same : u ≡ t = value_same e in
    let here : n ≡ n + 0 = omega arith in
    ap (λ (v : LexToken). Some (seen_as n v)) same ∙ ap (λ (m : ℕ). Some (seen_as m t)) here
marked_at n (u ∷ ts) (suc i) t e =
    let there : (n + 1) + i ≡ n + suc i = omega arith in
    marked_at (n + 1) ts i t e ∙ ap (λ (m : ℕ). Some (seen_as m t)) there

-- the same, numbered from 0
pub marked_get : (ts : List LexToken) (i : ℕ) (t : LexToken) → slice_get ts i ≡ Some t →
    slice_get (marked ts) i ≡ Some (seen_as i t)
marked_get ts i t e =
    let same : 0 + i ≡ i = omega arith in
    marked_at 0 ts i t e ∙ ap (λ (m : ℕ). Some (seen_as m t)) same

-- which token the one with a number is
pub got_marked : (ts : List LexToken) (i : ℕ) (token : Token) → slice_get (marked ts) i ≡ Some token →
    (t : LexToken) × (slice_get ts i ≡ Some t) × (token ≡ seen_as i t)
got_marked ts i token e = elim ((slice_get_cases ts i).1) [
  | inl there ↦ (there.0, there.2, value_same (sym e ∙ marked_get ts i there.0 there.2))
  | inr past ↦
      let few = past.0 in
      let none : slice_get (marked ts) i ≡ None = slice_get_past (marked ts) i (omega (arith, few, marked_length 0 ts)) in
      absurd (cc)
]

-- the mark of a token of this kind and with this text
pub mark_made : (ts : List LexToken) (i : ℕ) (k : Kind) (text : Text) → slice_get (kinds_of ts) i ≡ Some k →
    slice_get (texts_of ts) i ≡ Some text → slice_get (marked ts) i ≡ Some (record { mark = mark_of k text; number = i })
mark_made ts i k text kinds texts = elim ((slice_get_cases ts i).1) [
  | inl there ↦
      let t : LexToken = there.0 in
      let at : slice_get ts i ≡ Some t = there.2 in
      let of_kind : t.kind ≡ k =
      value_same (sym (slice_get-map (λ (t : LexToken). t.kind) ts i ∙ ap (option_map (λ (t : LexToken). t.kind)) at) ∙ kinds) in
      let of_text : t.text ≡ text =
      value_same (sym (slice_get-map (λ (t : LexToken). t.text) ts i ∙ ap (option_map (λ (t : LexToken). t.text)) at) ∙ texts) in
      marked_get ts i t at ∙ ap (λ (k : Kind). Some (record { mark = mark_of k t.text; number = i })) of_kind ∙
      ap (λ (text : Text). Some (record { mark = mark_of k text; number = i })) of_text
  | inr past ↦
      let none = slice_get-map (λ (t : LexToken). t.kind) ts i ∙ ap (option_map (λ (t : LexToken). t.kind)) past.1 in
      absurd (cc)
]

-- what is found passes what each passes
pub find_passes : {X : Type 0} (P : X → Type 0) (test : X → Bool) (xs : List X) (x : X) → AllByRecursion P xs →
    find test xs ≡ Some x → P x
find_passes P test [] x all e = absurd (cc)
find_passes P test (y ∷ ys) x all e = by_test (test y) e (find_passes P test ys x all.1)
  where
    by_test : (b : Bool) → (if b then Some y else find test ys) ≡ Some x → (find test ys ≡ Some x → P x) → P x
    by_test true e later = subst P (value_same e) all.0
    by_test false e later = later e

-- no word behind a dollar is a keyword
dollar_no_keyword : (text : Text) (found : Option Fixed.Fixed) → dollar_of text ≡ found →
    IsFalse (is_word (fixed_or mark.Other found))
unfolding dollar_of
dollar_no_keyword text None e = refl
dollar_no_keyword text (Some f) e =
    find_passes (λ f. IsFalse (is_keyword f)) (λ word. bytes_eq text (fixed_text word)) dollar_words f
    (refl, (refl, (refl, (refl, (refl, (refl, (refl, (refl, tt)))))))) e

-- a word, an integer or an upper word
abbrev may_name : Mark.Mark → Bool
may_name mark.Upper = true
may_name m = is_name m

-- what names something is one of these
named_mark : (n : Naming.Naming) (m : Mark.Mark) → IsTrue (names n m) → IsTrue (may_name m)
named_mark n mark.Upper e = refl
named_mark naming.Cited m e = e
named_mark naming.Label (mark.Fixed f) e = absurd (false≢true e)
named_mark naming.Label mark.Word e = absurd (false≢true e)
named_mark naming.Label (mark.Integer i) e = absurd (false≢true e)
named_mark naming.Label mark.Other e = absurd (false≢true e)
named_mark n (mark.Integer i) e = refl
named_mark naming.Listed m e = e
named_mark naming.Symbol m e = e
named_mark naming.Bound m e = e
named_mark naming.Predicate m e = e
named_mark naming.Equal m e = e
named_mark naming.Unequal m e = e

-- a token with such a mark is of a kind that names something
kind_of_name : (k : Kind) (text : Text) → IsTrue (may_name (mark_of k text)) → IsTrue (kind_names k)
kind_of_name kind.Lower text e = refl
kind_of_name kind.Upper text e = refl
kind_of_name kind.Quoted text e = refl
kind_of_name kind.Integer text e = refl
kind_of_name kind.Dollar text e = absurd (none (dollar_of text) (dollar_no_keyword text (dollar_of text) refl) e)
  where
    none : (found : Option Fixed.Fixed) → IsFalse (is_word (fixed_or mark.Other found)) →
        IsTrue (may_name (fixed_or mark.Other found)) → ⊥
    none None no_word e = false≢true e
    none (Some f) no_word e = false≢true (sym no_word ∙ e)
kind_of_name _ text e = absurd (false≢true e)

-- the name of a token that names something, and its kind
pub named_kind : (ts : List LexToken) (i : ℕ) (n : Naming.Naming) (token : Token) → slice_get (marked ts) i ≡ Some token →
    IsTrue (names n token.mark) → (k : Kind) × (slice_get (kinds_of ts) i ≡ Some k) × IsTrue (kind_names k)
named_kind ts i n token at named =
    let (t, got, same) = got_marked ts i token at in
    let marks : token.mark ≡ mark_of t.kind t.text = ap (λ (token : Token). token.mark) same in (
      t.kind,
      slice_get-map (λ (t : LexToken). t.kind) ts i ∙ ap (option_map (λ (t : LexToken). t.kind)) got,
      kind_of_name t.kind t.text (named_mark n (mark_of t.kind t.text) (subst (λ m. IsTrue (names n m)) marks named)),
    )

-- a token's number is its place
pub number_marked : (ts : List LexToken) (i : ℕ) (token : Token) → slice_get (marked ts) i ≡ Some token → token.number ≡ i
number_marked ts i token at = ap (λ (token : Token). token.number) (got_marked ts i token at).2

-- the name of the token of a number is that of the token that the grammar sees there
pub name_read : {E : Type 0} (ts : List LexToken) (i : ℕ) (token : Token) → slice_get (marked ts) i ≡ Some token →
    (result : Result Text E) → IfOk result (λ name. slice_get (names_of ts) i ≡ Some name) → IfOk result (λ name. name ≡ name_in ts token)
name_read ts i token at (Ok name) read =
    sym (ap (λ (n : ℕ). text_or_empty (slice_get (names_of ts) n)) (number_marked ts i token at) ∙ ap text_or_empty read)
name_read ts i token at (Err e) read = tt
