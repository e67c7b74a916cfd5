-- The tokens of a text as the grammar sees them: how many there are, the one with a number, and what words are.
use Rattle.std.specs.Prelude.{◌≡◌, ℕ, zero, suc, ◌<◌, ◌==◌, get_or, Bool, true, false, List, [], ◌∷◌, map, length, slice_get, option_map, Option, Some, None, IsTrue, if◌then◌else◌, codes}
use Rattle.std.specs.List.{AllByRecursion}
use Rattle.std.specs.Str.{bytes_eq}
use Rattle.std.proofs.Common.{refl, sym, ◌∙◌, ap, subst, inl, inr, arith}
use Rattle.std.proofs.lemmas.Bool.{false≢true}
use Rattle.std.proofs.lemmas.Option.{slice_get-map, slice_get_cases, slice_get_past}
use Rattle.text_core.specs.Names.{Text}
use Rattle.text_core.proofs.Laws.{value_same, each_get, each_mapped}
use Rattle.signature.specs.Columns.{name_number}
use Rattle.tptp_lexer.specs.declared.kind.Kind.{Kind}
use Rattle.tptp_lexer.specs.declared.kind.Kind.TheVariants as kind
use Rattle.tptp_lexer.specs.Tokens.{Token as LexToken, name_of}
use Rattle.tptp_lexer.specs.Columns.{kinds_of, texts_of}
use Rattle.model_text.specs.Numbers.{is_signed, number_in}
use Rattle.model_text.specs.declared.mark.Mark as Mark
use Rattle.model_text.specs.declared.mark.Mark.TheVariants as mark
use Rattle.model_text.specs.Words.{is_word_kind, names_in, number_among, name_numbered}
use Rattle.model_text.specs.Marks.{marked, mark_among, mark_of, lower_mark, integer_mark, fitting_mark, number_mark}
use Rattle.model_text.specs.Grammar.{is_word}
use Rattle.model_text.specs.Values.{word_in, name_in}
use Rattle.model_text.proofs.WordNumbers.{Has, IsNamed, each_named, number_tells, number_there}

-- there is one for each
pub length_mapped : {X Y : Type 0} (f : X → Y) (xs : List X) → length (map f xs) ≡ length xs
length_mapped f [] = refl
length_mapped f (x ∷ xs) = let rest = length_mapped f xs in omega arith

-- there is one for each token
pub marked_length : (ts : List LexToken) → length (marked ts) ≡ length ts
marked_length ts = length_mapped (mark_among (names_in ts)) ts

-- the one with a number is that of the token with this number
pub marked_get : (ts : List LexToken) (i : ℕ) (t : LexToken) → slice_get ts i ≡ Some t → slice_get (marked ts) i ≡ Some (mark_among (names_in ts) t)
marked_get ts i t at = slice_get-map (mark_among (names_in ts)) ts i ∙ ap (option_map (mark_among (names_in ts))) at

-- which token the one with a number is of
pub got_marked : (ts : List LexToken) (i : ℕ) (m : Mark.Mark) → slice_get (marked ts) i ≡ Some m →
    (t : LexToken) × (slice_get ts i ≡ Some t) × (m ≡ mark_among (names_in ts) t)
got_marked ts i m e = elim ((slice_get_cases ts i).1) [
  | inl there ↦ (there.0, there.2, value_same (sym e ∙ marked_get ts i there.0 there.2))
  | inr past ↦
      let few = past.0 in
      let none : slice_get (marked ts) i ≡ None = slice_get_past (marked ts) i (omega (arith, few, marked_length ts)) in
      absurd (cc)
]

-- what a function makes of the item with a number
got_mapped : {X : Type 0} (f : X → ℕ) (xs : List X) (i : ℕ) (x : X) (other : ℕ) → slice_get xs i ≡ Some x → get_or (map f xs) i other ≡ f x
got_mapped f [] i x other e = absurd (cc)
got_mapped f (y ∷ xs) zero x other e = ap f (value_same e)
got_mapped f (y ∷ xs) (suc i) x other e = got_mapped f xs i x other e

-- the mark that is made of the number, the kind and the text that a token has
pub mark_made : (ts : List LexToken) (names : List Text) (numbers : List ℕ) (i word : ℕ) (k : Kind) (text : Text) → names ≡ names_in ts →
    numbers ≡ map (number_among names) ts → word ≡ get_or numbers i word → slice_get (kinds_of ts) i ≡ Some k →
    slice_get (texts_of ts) i ≡ Some text → slice_get (marked ts) i ≡ Some (mark_of word k text)
mark_made ts names numbers i word k text is are words kinds texts = elim ((slice_get_cases ts i).1) [
  | inl there ↦
      let t : LexToken = there.0 in
      let at : slice_get ts i ≡ Some t = there.2 in
      let of_kind : t.kind ≡ k =
      value_same (sym (slice_get-map (λ (t : LexToken). t.kind) ts i ∙ ap (option_map (λ (t : LexToken). t.kind)) at) ∙ kinds) in
      let of_text : t.text ≡ text =
      value_same (sym (slice_get-map (λ (t : LexToken). t.text) ts i ∙ ap (option_map (λ (t : LexToken). t.text)) at) ∙ texts) in
      let of_word : number_among (names_in ts) t ≡ word =
      ap (λ (ns : List Text). number_among ns t) (sym is) ∙
      sym (words ∙ (ap (λ (ns : List ℕ). get_or ns i word) are ∙ got_mapped (number_among names) ts i t word at)) in
      marked_get ts i t at ∙ (λ j. Some (mark_of (of_word j) (of_kind j) (of_text j)))
  | inr past ↦
      let none = slice_get-map (λ (t : LexToken). t.kind) ts i ∙ ap (option_map (λ (t : LexToken). t.kind)) past.1 in
      absurd (cc)
]

-- a lower word is a word, with its number
lower_is_word : (word : ℕ) (text : Text) → IsTrue (is_word (lower_mark word text)) × (word_in (lower_mark word text) ≡ word)
lower_is_word word text =
    by (bytes_eq text (codes "model")) (bytes_eq text (codes "size")) (bytes_eq text (codes "place")) (bytes_eq text (codes "is"))
    (bytes_eq text (codes "fact"))
  where
    by : (a b c d e : Bool) → IsTrue (is_word (if a then mark.Model word else (if b then mark.Size word else (if c then mark.Place word else
        (if d then mark.Is word else (if e then mark.Fact word else mark.Word word)))))) ×
        (word_in (if a then mark.Model word else (if b then mark.Size word else (if c then mark.Place word else
        (if d then mark.Is word else (if e then mark.Fact word else mark.Word word))))) ≡ word)
    by true b c d e = (refl, refl)
    by false true c d e = (refl, refl)
    by false false true d e = (refl, refl)
    by false false false true e = (refl, refl)
    by false false false false true = (refl, refl)
    by false false false false false = (refl, refl)

-- what is of a kind of words is a word to the grammar
pub kind_is_word : (word : ℕ) (k : Kind) (text : Text) → is_word_kind k ≡ true → IsTrue (is_word (mark_of word k text))
kind_is_word word kind.Lower text e = (lower_is_word word text).0
kind_is_word word kind.Quoted text e = refl
kind_is_word word _ text e = absurd (false≢true e)

-- no number is a word
number_no_word : (n : ℕ) → is_word (number_mark n) ≡ false
number_no_word n = by (n == 1)
  where
    by : (b : Bool) → is_word (if b then mark.One else mark.Number n) ≡ false
    by true = refl
    by false = refl

fitting_no_word : (o : Option ℕ) → is_word (fitting_mark o) ≡ false
fitting_no_word None = refl
fitting_no_word (Some n) = number_no_word n

integer_no_word : (text : Text) → is_word (integer_mark text) ≡ false
integer_no_word text = by (is_signed text)
  where
    by : (b : Bool) → is_word (if b then mark.Other else fitting_mark (number_in text)) ≡ false
    by true = refl
    by false = fitting_no_word (number_in text)

-- what is a word to the grammar is of a kind of words, and has its number
pub word_of_kind : (word : ℕ) (k : Kind) (text : Text) → IsTrue (is_word (mark_of word k text)) →
    (is_word_kind k ≡ true) × (word_in (mark_of word k text) ≡ word)
word_of_kind word kind.Lower text is = (refl, (lower_is_word word text).1)
word_of_kind word kind.Quoted text is = (refl, refl)
word_of_kind word kind.Integer text is = absurd (false≢true (sym (integer_no_word text) ∙ is))
word_of_kind word _ text is = absurd (false≢true is)

-- a word's number is that of its name
abbrev pub IsProper : List Text → Mark.Mark → Type 0
IsProper names m = IsTrue (is_word m) → (word_in m ≡ name_number names (name_in names m)) × (word_in m < length names)

-- a token's mark is proper, and its name is that of the token
mark_proper : (names : List Text) (t : LexToken) → IsNamed names t → IsProper names (mark_among names t)
mark_proper names t named word =
    let (kinds, number) = word_of_kind (number_among names t) t.kind t.text word in
    let here : Has names (name_of t) = named kinds in
    let of_word : word_in (mark_among names t) ≡ name_number names (name_of t) =
    number ∙ ap (λ (b : Bool). if b then name_number names (name_of t) else 0) kinds in
    let name : name_in names (mark_among names t) ≡ name_of t =
    ap (name_numbered names) of_word ∙ number_tells names (name_of t) here in (
      of_word ∙ ap (name_number names) (sym name),
      subst (λ n. n < length names) (sym of_word) (number_there names (name_of t) here),
    )

-- all marks of a text are proper
pub all_proper : (ts : List LexToken) → AllByRecursion (IsProper (names_in ts)) (marked ts)
all_proper ts =
    each_mapped {P = IsNamed (names_in ts)} {Q = λ t. Unit {0}} (IsProper (names_in ts)) (mark_among (names_in ts))
    (λ t named other. mark_proper (names_in ts) t named) ts (each_named ts []) (units ts)
  where
    units : (xs : List LexToken) → AllByRecursion (λ t. Unit {0}) xs
    units [] = tt
    units (x ∷ xs) = (tt, units xs)

-- a word of a text has the number of one of its names
pub word_below : (ts : List LexToken) (i : ℕ) (m : Mark.Mark) → slice_get (marked ts) i ≡ Some m → IsTrue (is_word m) →
    word_in m < length (names_in ts)
word_below ts i m at word = (each_get (IsProper (names_in ts)) (marked ts) i m (all_proper ts) at word).1

-- a text's words name what they are
pub named_word : (names : List Text) (t : LexToken) → IsNamed names t → is_word_kind t.kind ≡ true →
    IsTrue (is_word (mark_among names t)) → name_in names (mark_among names t) ≡ name_of t
named_word names t named kinds word =
    ap (name_numbered names) ((word_of_kind (number_among names t) t.kind t.text word).1 ∙
    ap (λ (b : Bool). if b then name_number names (name_of t) else 0) kinds) ∙ number_tells names (name_of t) (named kinds)
