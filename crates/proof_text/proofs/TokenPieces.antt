-- The texts of tokens, and what the tokens that they give are to the grammar.
use Rattle.std.specs.Prelude.{◌≡◌, ℕ, true, List, [], ◌∷◌, slice_get, option_map, Option, Some, None, IsTrue}
use Rattle.std.specs.Str.{bytes_eq}
use Rattle.std.proofs.Common.{refl, sym, ◌∙◌, ap, subst, inl, inr}
use Rattle.std.proofs.lemmas.Bool.{false≢true}
use Rattle.std.proofs.lemmas.Option.{slice_get-map}
use Rattle.text_core.specs.Names.{Text}
use Rattle.text_core.specs.NameTexts.{IsNameText, is_upper_word}
use Rattle.text_core.specs.Numbered.{text_or_empty}
use Rattle.tptp_lexer.specs.declared.kind.Kind.{Kind}
use Rattle.tptp_lexer.specs.Tokens.{Token as LexToken, name_of}
use Rattle.tptp_lexer.specs.Spelling.{IsWord, IsNaming}
use Rattle.tptp_lexer.specs.Written.{word_text, name_text}
use Rattle.tptp_lexer.proofs.Laws.{NoWord, Gives, IsOne, IsToken, seen, word, naming, variable}
use Rattle.proof_text.specs.declared.fixed.Fixed as Fixed
use Rattle.proof_text.specs.declared.fixed.Fixed.TheVariants as fixed
use Rattle.proof_text.specs.declared.mark.Mark as Mark
use Rattle.proof_text.specs.declared.mark.Mark.TheVariants as mark
use Rattle.proof_text.specs.declared.part.TextPart.TheVariants.{Taken}
use Rattle.proof_text.specs.declared.part.Taker.TheVariants as taker
use Rattle.proof_text.specs.declared.part.Naming as Naming
use Rattle.proof_text.specs.declared.part.Naming.TheVariants as use_of
use Rattle.proof_text.specs.declared.part.Act as Act
use Rattle.proof_text.specs.Fixed.{fixed_text, keyword_of, keywords, is_keyword, same_fixed}
use Rattle.proof_text.specs.Marks.{mark_of, fixed_or}
use Rattle.proof_text.specs.Grammar.{mark_taken, names, is_word, is_name}
use Rattle.proof_text.specs.Values.{name_in}
use Rattle.proof_text.proofs.Marked.{seen_as, find_passes}
use Rattle.proof_text.proofs.Standing.{Spells, token_spelled}

-- a text of its own is the same as itself
same_self : (f : Fixed.Fixed) → same_fixed f f ≡ true
same_self fixed.Vernacular = refl
same_self fixed.Take = refl
same_self fixed.Mp = refl
same_self fixed.With = refl
same_self fixed.New = refl
same_self fixed.Gives = refl
same_self fixed.As = refl
same_self fixed.Efq = refl
same_self fixed.Gap = refl
same_self fixed.Cs = refl
same_self fixed.Case = refl
same_self fixed.End = refl
same_self fixed.True = refl
same_self fixed.False = refl
same_self fixed.Refl = refl
same_self fixed.Sym = refl
same_self fixed.Trans = refl
same_self fixed.Sub = refl
same_self fixed.No = refl
same_self fixed.Or = refl
same_self fixed.OpenParenthesis = refl
same_self fixed.CloseParenthesis = refl
same_self fixed.OpenBracket = refl
same_self fixed.CloseBracket = refl
same_self fixed.Comma = refl
same_self fixed.Dot = refl
same_self fixed.Colon = refl
same_self fixed.Tilde = refl
same_self fixed.Ampersand = refl
same_self fixed.Bar = refl
same_self fixed.Equal = refl
same_self fixed.NotEqual = refl

-- the mark of a keyword's text, and of a word behind a dollar
pub keyword_marked : (f : Fixed.Fixed) → is_keyword f ≡ true → keyword_of (fixed_text f) ≡ Some f
unfolding keyword_of
keyword_marked fixed.Vernacular e = refl
keyword_marked fixed.Take e = refl
keyword_marked fixed.Mp e = refl
keyword_marked fixed.With e = refl
keyword_marked fixed.New e = refl
keyword_marked fixed.Gives e = refl
keyword_marked fixed.As e = refl
keyword_marked fixed.Efq e = refl
keyword_marked fixed.Gap e = refl
keyword_marked fixed.Cs e = refl
keyword_marked fixed.Case e = refl
keyword_marked fixed.End e = refl
keyword_marked _ e = absurd (false≢true e)

-- a token with this mark is taken where its text is asked for
fixed_spelled : (f : Fixed.Fixed) (does : Act.Act) (t : LexToken) → mark_of t.kind t.text ≡ mark.Fixed f → Spells (Taken (taker.Fixed f does)) tt (t ∷ [])
fixed_spelled f does t e = token_spelled (taker.Fixed f does) tt t (ap (mark_taken (taker.Fixed f does)) e ∙ same_self f) (λ all n at. tt)

-- a sign, by its kind
pub sign_piece : {may : Text → Type 0} {piece : Text} (k : Kind) (f : Fixed.Fixed) (does : Act.Act) → ((text : Text) → mark_of k text ≡ mark.Fixed f) →
    Gives may piece (IsOne k) → Gives may piece (Spells (Taken (taker.Fixed f does)) tt)
sign_piece k f does marks p = seen
    (λ ts s.
    let e : mark_of (s.0).kind (s.0).text ≡ mark.Fixed f = ap (λ k. mark_of k (s.0).text) s.1 ∙ marks (s.0).text in
    subst (Spells (Taken (taker.Fixed f does)) tt) (sym s.2) (fixed_spelled f does s.0 e)) p

-- a token by its kind and its text
pub text_piece : {may : Text → Type 0} {piece : Text} (k : Kind) (text : Text) (f : Fixed.Fixed) (does : Act.Act) → mark_of k text ≡ mark.Fixed f →
    Gives may piece (IsToken k text) → Gives may piece (Spells (Taken (taker.Fixed f does)) tt)
text_piece k text f does marks p = seen
    (λ ts s.
    let e : mark_of (s.0).kind (s.0).text ≡ mark.Fixed f = ap (λ k. mark_of k (s.0).text) s.1 ∙ (ap (mark_of k) s.2 ∙ marks) in
    subst (Spells (Taken (taker.Fixed f does)) tt) (sym s.3) (fixed_spelled f does s.0 e)) p

-- the name of a token that stands at a number
name_at : (all : List LexToken) (n : ℕ) (t : LexToken) → slice_get all n ≡ Some t → name_in all (seen_as n t) ≡ name_of t
name_at all n t at = ap text_or_empty (slice_get-map name_of all n ∙ ap (option_map name_of) at)

-- a lower word's mark is a word's
lower_is_word : (text : Text) (found : Option Fixed.Fixed) → keyword_of text ≡ found → IsTrue (is_word (fixed_or mark.Word found))
unfolding keyword_of
lower_is_word text None e = refl
lower_is_word text (Some f) e =
    find_passes (λ f. IsTrue (is_keyword f)) (λ word. bytes_eq text (fixed_text word)) keywords f
    (refl, (refl, (refl, (refl, (refl, (refl, (refl, (refl, (refl, (refl, (refl, (refl, tt)))))))))))) e

-- a word is marked as one
word_marked : (t : LexToken) → IsWord t → IsTrue (is_word (mark_of t.kind t.text))
word_marked t (inl e) = ap (λ k. is_word (mark_of k t.text)) e ∙ lower_is_word t.text (keyword_of t.text) refl
word_marked t (inr e) = ap (λ k. is_word (mark_of k t.text)) e

-- what names a word here
abbrev pub NamesWord : Naming.Naming → Type 0
NamesWord n = (m : Mark.Mark) → IsTrue (is_word m) → IsTrue (names n m)

-- a word
pub word_piece : (n : Naming.Naming) → NamesWord n → (x : Text) → IsNameText x → Gives NoWord (word_text x) (Spells (Taken (taker.Name n)) x)
word_piece n takes x named = seen
    (λ ts s.
    let t : LexToken = s.0 in
    subst (Spells (Taken (taker.Name n)) x) (sym s.3)
    (token_spelled (taker.Name n) x t (takes (mark_of t.kind t.text) (word_marked t s.1)) (λ all i at. name_at all i t at ∙ sym s.2)))
    (word x named)

-- a word is a name
word_is_name : (m : Mark.Mark) → IsTrue (is_word m) → IsTrue (is_name m)
word_is_name (mark.Integer i) e = refl
word_is_name (mark.Fixed f) e = e
word_is_name mark.Word e = e
word_is_name mark.Upper e = e
word_is_name mark.Other e = e

-- the name of a formula is marked as one
name_marked : (t : LexToken) → IsNaming t → IsTrue (is_name (mark_of t.kind t.text))
name_marked t (inl word) = word_is_name (mark_of t.kind t.text) (word_marked t word)
name_marked t (inr e) = ap (λ k. is_name (mark_of k t.text)) e

-- the name of a formula
pub cited_piece : (x : Text) → IsNameText x → Gives NoWord (name_text x) (Spells (Taken (taker.Name use_of.Cited)) x)
cited_piece x named = seen
    (λ ts s.
    let t : LexToken = s.0 in
    subst (Spells (Taken (taker.Name use_of.Cited)) x) (sym s.3)
    (token_spelled (taker.Name use_of.Cited) x t (name_marked t s.1) (λ all i at. name_at all i t at ∙ sym s.2)))
    (naming x named)

-- a variable
pub label_piece : (x : Text) → is_upper_word x ≡ true → Gives NoWord x (Spells (Taken (taker.Name use_of.Label)) x)
label_piece x upper = seen
    (λ ts s.
    let t : LexToken = s.0 in
    let e : IsTrue (names use_of.Label (mark_of t.kind t.text)) = ap (λ k. names use_of.Label (mark_of k t.text)) s.1 in
    subst (Spells (Taken (taker.Name use_of.Label)) x) (sym s.3)
    (token_spelled (taker.Name use_of.Label) x t e (λ all i at. name_at all i t at ∙ sym s.2)))
    (variable x upper)
