-- The canonical text of a structure spells it.
use Rattle.std.specs.Prelude.{◌≡◌, ℕ, ◌<◌, ◌≤◌, true, List, [], ◌∷◌, ◌++◌, codes, IsTrue}
use Rattle.std.specs.Fmt.{decimal}
use Rattle.std.specs.List.{AllByRecursion, flat_map}
use Rattle.std.proofs.Common.{refl, sym, ◌∙◌, ap, subst, inl, inr, arith, append_assoc}
use Rattle.std.proofs.lemmas.List.{append-nil}
use Rattle.text_core.specs.Names.{Text, is_lower, is_word_from}
use Rattle.text_core.specs.NameTexts.{IsNameText}
use Rattle.text_core.specs.Lists.{IsAmong}
use Rattle.text_core.proofs.Laws.{each_is_among, each_member}
use Rattle.token_grammar.specs.SpelledAs.{SpelledAs}
use Rattle.tptp_lexer.specs.declared.kind.Kind.{Kind}
use Rattle.tptp_lexer.specs.declared.kind.Kind.TheVariants as kind
use Rattle.tptp_lexer.specs.Tokens.{Token as LexToken, AreTokens, Reads, IsEnd, stop, name_of}
use Rattle.tptp_lexer.specs.Spelling.{IsWord}
use Rattle.tptp_lexer.specs.Written.{word_text}
use Rattle.tptp_lexer.proofs.Laws.{Any, NoWord, Gives, IsOne, before, seen, word, integer, open_parenthesis, close_parenthesis, comma, dot, gap_after, blank_after, blank_before, lower_word}
use Rattle.model_text.specs.declared.limits.TheConstants.{MOST_ELEMENTS}
use Rattle.model_text.specs.declared.mark.Mark as Mark
use Rattle.model_text.specs.declared.part.ModelPart.TheVariants.{Taken, Row}
use Rattle.model_text.specs.declared.part.Taker as Taker
use Rattle.model_text.specs.declared.part.Taker.TheVariants as taker
use Rattle.model_text.specs.declared.part.Rule.TheVariants as rule
use Rattle.model_text.specs.declared.structure.Place.{Place}
use Rattle.model_text.specs.declared.structure.Fact.{Fact}
use Rattle.model_text.specs.Structures.{Finite, IsSound, AreElements}
use Rattle.model_text.specs.Words.{is_word_kind, names_in, number_among}
use Rattle.model_text.specs.Numbers.{most_number}
use Rattle.model_text.specs.Marks.{mark_of, mark_among, marked}
use Rattle.model_text.specs.Grammar.{models, taker_takes, is_word}
use Rattle.model_text.specs.Values.{Value, number_of, name_in, model_making}
use Rattle.model_text.specs.Canonical.{line_end, place_text, further_text, arguments_text, fact_text, model_text}
use Rattle.model_text.specs.Named.{PlaceIsNamed, FactIsNamed}
use Rattle.model_text.specs.Texts.{IsModelOf}
use Rattle.model_text.proofs.WordNumbers.{IsNamed, each_named}
use Rattle.model_text.proofs.Marked.{kind_is_word, named_word}
use Rattle.model_text.proofs.Standing.{Spells, Meaning, Means, token_spelled, as_text, none_piece, and_then, and_last, rule_piece}
use Rattle.model_text.proofs.NumberPieces.{size_piece, element_piece, argument_piece}

-- a keyword, which its part takes whatever its number
keyword_piece : (text : Text) (by : Taker.Taker) (m : Meaning (Taken by)) → is_word_from is_lower text ≡ true →
    ((n : ℕ) → IsTrue (taker_takes by (mark_of n kind.Lower text))) →
    ((all : List LexToken) (v : Mark.Mark) → Means all (Taken by) v m) → Gives NoWord text (Spells (Taken by) m)
keyword_piece text by m lower taken means = seen
    (λ ts s.
    let t : LexToken = s.0 in
    subst (Spells (Taken by) m) (sym s.3)
    (token_spelled by m t
    (λ names. (λ i. taker_takes by (mark_of (number_among names t) (s.1 i) (s.2 i))) ∙ taken (number_among names t))
    (λ all here. means all (mark_among (names_in all) t))))
    (lower_word text lower)

-- a sign, by its kind
sign_piece : {may : Text → Type 0} {piece : Text} (k : Kind) (by : Taker.Taker) (m : Meaning (Taken by)) →
    ((n : ℕ) (text : Text) → IsTrue (taker_takes by (mark_of n k text))) →
    ((all : List LexToken) (v : Mark.Mark) → Means all (Taken by) v m) → Gives may piece (IsOne k) → Gives may piece (Spells (Taken by) m)
sign_piece k by m taken means p = seen
    (λ ts s.
    let t : LexToken = s.0 in
    subst (Spells (Taken by) m) (sym s.2)
    (token_spelled by m t
    (λ names. ap (λ k. taker_takes by (mark_of (number_among names t) k t.text)) s.1 ∙ taken (number_among names t) t.text)
    (λ all here. means all (mark_among (names_in all) t)))) p

-- a word is of a kind of words
word_kind : (t : LexToken) → IsWord t → is_word_kind t.kind ≡ true
word_kind t (inl e) = ap is_word_kind e
word_kind t (inr e) = ap is_word_kind e

-- a word is taken as one
word_taken : (t : LexToken) → IsWord t → (names : List Text) → IsTrue (is_word (mark_among names t))
word_taken t is names = kind_is_word (number_among names t) t.kind t.text (word_kind t is)

-- and names what it is
word_names : (t : LexToken) → IsWord t → (all : List LexToken) → IsAmong t all → name_in (names_in all) (mark_among (names_in all) t) ≡ name_of t
word_names t is all here =
    named_word (names_in all) t (each_member (IsNamed (names_in all)) all (each_named all []) t here) (word_kind t is)
    (word_taken t is (names_in all))

-- a constant
constant_piece : (x : Text) → IsNameText x → Gives NoWord (word_text x) (Spells (Taken taker.Constant) x)
constant_piece x named = seen
    (λ ts s.
    let t : LexToken = s.0 in
    subst (Spells (Taken taker.Constant) x) (sym s.3)
    (token_spelled taker.Constant x t (word_taken t s.1) (λ all here. word_names t s.1 all here ∙ sym s.2)))
    (word x named)

-- a predicate
predicate_piece : (x : Text) → IsNameText x → Gives NoWord (word_text x) (Spells (Taken taker.Predicate) x)
predicate_piece x named = seen
    (λ ts s.
    let t : LexToken = s.0 in
    subst (Spells (Taken taker.Predicate) x) (sym s.3)
    (token_spelled taker.Predicate x t (word_taken t s.1) (λ all here. word_names t s.1 all here ∙ sym s.2)))
    (word x named)

-- the version
version_piece : Gives NoWord (codes "1") (Spells (Taken taker.Version) tt)
version_piece = seen
    (λ ts s.
    let t : LexToken = s.0 in
    subst (Spells (Taken taker.Version) tt) (sym s.3)
    (token_spelled taker.Version tt t
    (λ names. (λ i. taker_takes taker.Version (mark_of (number_among names t) (s.1 i) (s.2 i))) ∙ refl) (λ all here. tt)))
    (integer (codes "1") refl)

-- the dots at the ends of lines
dot_piece : Gives Any line_end (Spells (Taken taker.Dot) tt)
dot_piece = gap_after 10 refl (λ rest. tt) (sign_piece kind.Dot taker.Dot tt (λ n text. refl) (λ all v. tt) dot)

end_fact_piece : Gives Any line_end (Spells (Taken taker.EndFact) tt)
end_fact_piece = gap_after 10 refl (λ rest. tt) (sign_piece kind.Dot taker.EndFact tt (λ n text. refl) (λ all v. tt) dot)

-- equal heads and equal tails make equal lists
same_list : {X : Type 0} (x y : X) (xs ys : List X) → x ≡ y → xs ≡ ys → x ∷ xs ≡ y ∷ ys
same_list x y xs ys e f = ap (λ z. z ∷ xs) e ∙ ap (λ zs. y ∷ zs) f

-- further arguments follow a number
further_follows : (ns : List ℕ) (rest : Text) → NoWord rest → NoWord (flat_map further_text ns ++ rest)
further_follows [] rest may = may
further_follows (n ∷ ns) rest may = refl

-- further arguments
others_piece : (ns : List ℕ) → AllByRecursion (λ n. n ≤ most_number) ns → Gives NoWord (flat_map further_text ns) (Spells (Row rule.Others) ns)
others_piece [] small = rule_piece rule.Others (inl tt) tt [] (λ all values mean. refl) (before (λ rest may. tt) none_piece)
others_piece (n ∷ ns) small =
    as_text (sym (append_assoc (codes ",") (decimal n) (flat_map further_text ns)))
    (rule_piece rule.Others (inr (inl tt)) (tt, (n, (ns, tt))) (n ∷ ns)
    (λ all values mean. same_list (number_of values.1.0) n values.1.1.0 ns mean.1.0 mean.1.1.0)
    (and_then tt (n, (ns, tt)) (sign_piece kind.Comma taker.Comma tt (λ m text. refl) (λ all v. tt) comma)
    (and_then n (ns, tt) (argument_piece n small.0) (and_last ns (others_piece ns small.1)) (λ rest may. further_follows ns rest may))
    (λ rest may. tt)))

-- texts joined in pairs are the texts in order
three_order : (a b c d : Text) → a ++ (b ++ (c ++ d)) ≡ a ++ b ++ c ++ d
three_order a b c d = simp append_assoc

four_order : (a b c d e : Text) → a ++ (b ++ (c ++ (d ++ e))) ≡ a ++ b ++ c ++ d ++ e
four_order a b c d e = simp append_assoc

five_order : (a b c d e f : Text) → a ++ (b ++ (c ++ (d ++ (e ++ f)))) ≡ a ++ b ++ c ++ d ++ e ++ f
five_order a b c d e f = simp append_assoc

-- the arguments of a fact
arguments_piece : (ns : List ℕ) → AllByRecursion (λ n. n ≤ most_number) ns → Gives NoWord (arguments_text ns) (Spells (Row rule.Arguments) ns)
arguments_piece [] small = rule_piece rule.Arguments (inl tt) tt [] (λ all values mean. refl) (before (λ rest may. tt) none_piece)
arguments_piece (n ∷ ns) small =
    as_text (three_order (codes "(") (decimal n) (flat_map further_text ns) (codes ")"))
    (rule_piece rule.Arguments (inr (inl tt)) (tt, (n, (ns, (tt, tt)))) (n ∷ ns)
    (λ all values mean. same_list (number_of values.1.0) n values.1.1.0 ns mean.1.0 mean.1.1.0)
    (before (λ rest may. tt)
    (and_then tt (n, (ns, (tt, tt))) (sign_piece kind.OpenParenthesis taker.Open tt (λ m text. refl) (λ all v. tt) open_parenthesis)
    (and_then n (ns, (tt, tt)) (argument_piece n small.0)
    (and_then ns (tt, tt) (others_piece ns small.1)
    (and_last tt (sign_piece kind.CloseParenthesis taker.Close tt (λ m text. refl) (λ all v. tt) close_parenthesis)) (λ rest may. refl))
    (λ rest may. close_follows ns rest)) (λ rest may. tt))))
  where
    close_follows : (ns : List ℕ) (rest : Text) → NoWord ((flat_map further_text ns ++ codes ")") ++ rest)
    close_follows [] rest = refl
    close_follows (n ∷ ns) rest = refl

-- elements are small numbers
small_elements : (size : ℕ) → size ≤ MOST_ELEMENTS → (ns : List ℕ) → AreElements size ns → AllByRecursion (λ n. n ≤ most_number) ns
small_elements size few [] h = tt
small_elements size few (n ∷ ns) h = (let below : n < size = h.0 in omega (arith, few, below), small_elements size few ns h.1)

module _ (size : ℕ) (few : size ≤ MOST_ELEMENTS) where
  -- the facts
  facts_piece : (fs : List Fact) → AllByRecursion FactIsNamed fs → AllByRecursion (λ (f : Fact). AreElements size f.arguments) fs →
      Gives Any (flat_map fact_text fs) (Spells (Row rule.Facts) fs)
  facts_piece [] named elements = rule_piece rule.Facts (inl tt) tt [] (λ all values mean. refl) none_piece
  facts_piece (f ∷ fs) named elements =
      as_text (four_order (codes "fact ") (word_text f.predicate) (arguments_text f.arguments) line_end (flat_map fact_text fs))
      (rule_piece rule.Facts (inr (inl tt)) (tt, (f.predicate, (f.arguments, (tt, (fs, tt))))) (f ∷ fs)
      (λ all values mean. same_list (record { predicate = name_in (names_in all) values.1.0; arguments = values.1.1.0 }) f values.1.1.1.1.0 fs
      (λ i. record { predicate = mean.1.0 i; arguments = mean.1.1.0 i }) mean.1.1.1.1.0)
      (and_then tt (f.predicate, (f.arguments, (tt, (fs, tt))))
      (blank_after (λ rest. refl) (keyword_piece (codes "fact") taker.FactWord tt refl (λ n. refl) (λ all v. tt)))
      (and_then f.predicate (f.arguments, (tt, (fs, tt))) (predicate_piece f.predicate named.0)
      (and_then f.arguments (tt, (fs, tt)) (arguments_piece f.arguments (small_elements size few f.arguments elements.0))
      (and_then tt (fs, tt) end_fact_piece (and_last fs (facts_piece fs named.1 elements.1)) (λ rest may. tt))
      (λ rest may. refl))
      (λ rest may. follows f.arguments (flat_map fact_text fs) rest)) (λ rest may. tt)))
    where
      follows : (ns : List ℕ) (more rest : Text) → NoWord ((arguments_text ns ++ (line_end ++ more)) ++ rest)
      follows [] more rest = refl
      follows (n ∷ ns) more rest = refl

  -- the places
  places_piece : (ps : List Place) → AllByRecursion PlaceIsNamed ps → AllByRecursion (λ (p : Place). p.element < size) ps → (x : Text) (fs : List Fact) →
      Gives Any x (Spells (Row rule.Facts) fs) → Gives Any (flat_map place_text ps) (Spells (Row rule.Places) ps)
  places_piece [] named elements x fs p = rule_piece rule.Places (inl tt) tt [] (λ all values mean. refl) none_piece
  places_piece (q ∷ ps) named elements x fs p =
      as_text (five_order (codes "place ") (word_text q.constant) (codes " is ") (decimal q.element) line_end (flat_map place_text ps))
      (rule_piece rule.Places (inr (inl tt)) (tt, (q.constant, (tt, (q.element, (tt, (ps, tt)))))) (q ∷ ps)
      (λ all values mean. same_list (record { constant = name_in (names_in all) values.1.0; element = number_of values.1.1.1.0 }) q values.1.1.1.1.1.0 ps
      (λ i. record { constant = mean.1.0 i; element = mean.1.1.1.0 i }) mean.1.1.1.1.1.0)
      (and_then tt (q.constant, (tt, (q.element, (tt, (ps, tt)))))
      (blank_after (λ rest. refl) (keyword_piece (codes "place") taker.PlaceWord tt refl (λ n. refl) (λ all v. tt)))
      (and_then q.constant (tt, (q.element, (tt, (ps, tt)))) (constant_piece q.constant named.0)
      (and_then tt (q.element, (tt, (ps, tt)))
      (blank_before (blank_after (λ rest. refl) (keyword_piece (codes "is") taker.IsWord tt refl (λ n. refl) (λ all v. tt))))
      (and_then q.element (tt, (ps, tt)) (element_piece q.element (let below : q.element < size = elements.0 in omega (arith, few, below)))
      (and_then tt (ps, tt) dot_piece (and_last ps (places_piece ps named.1 elements.1 x fs p)) (λ rest may. tt))
      (λ rest may. refl)) (λ rest may. tt)) (λ rest may. refl)) (λ rest may. tt)))

-- a structure
model_piece : (m : Finite) → AllByRecursion PlaceIsNamed m.places → AllByRecursion FactIsNamed m.facts → IsSound m →
    Gives Any (model_text m) (Spells (Row rule.Text) m)
model_piece m places facts sound =
    let size = m.size in
    let facts_there = facts_piece m.size sound.few m.facts facts sound.arguments in
    let places_there = places_piece m.size sound.few m.places places sound.placed (flat_map fact_text m.facts) m.facts facts_there in
    as_text (whole_order (decimal m.size) (flat_map place_text m.places) (flat_map fact_text m.facts))
    (rule_piece rule.Text (inl tt) (tt, (tt, (tt, (m, tt)))) m (λ all values mean. mean.1.1.1.0)
    (and_then tt (tt, (tt, (m, tt))) (blank_after (λ rest. refl) (keyword_piece (codes "model") taker.ModelWord tt refl (λ n. refl) (λ all v. tt)))
    (and_then tt (tt, (m, tt)) version_piece
    (and_then tt (m, tt) dot_piece
    (and_last m
    (rule_piece rule.Sized (inl tt) (tt, (m.size, (tt, (m.places, (m.facts, tt))))) m
    (λ all values mean. λ i. record { size = mean.1.0 i; places = mean.1.1.1.0 i; facts = mean.1.1.1.1.0 i })
    (and_then tt (m.size, (tt, (m.places, (m.facts, tt))))
    (blank_after (λ rest. refl) (keyword_piece (codes "size") taker.SizeWord tt refl (λ n. refl) (λ all v. tt)))
    (and_then m.size (tt, (m.places, (m.facts, tt))) (size_piece m.size (let few = sound.few in omega (arith, few)))
    (and_then tt (m.places, (m.facts, tt)) dot_piece
    (and_then m.places (m.facts, tt) places_there (and_last m.facts facts_there) (λ rest may. tt)) (λ rest may. tt)) (λ rest may. refl))
    (λ rest may. tt)))) (λ rest may. tt)) (λ rest may. refl)) (λ rest may. tt)))
  where
    whole_order : (d b p : Text) → codes "model " ++ (codes "1" ++ (line_end ++ (codes "size " ++ (d ++ (line_end ++ (b ++ p)))))) ≡
        codes "model 1" ++ line_end ++ codes "size " ++ d ++ line_end ++ b ++ p
    whole_order d b p = ap (λ (t : Text). codes "model 1" ++ line_end ++ codes "size " ++ t) (inner d line_end b p)
      where
        inner : (d e b p : Text) → d ++ (e ++ (b ++ p)) ≡ d ++ e ++ b ++ p
        inner d e b p = simp append_assoc

-- what is put, in order
pub put_order : (out d b p : Text) → out ++ codes "model 1.\nsize " ++ d ++ line_end ++ b ++ p ≡ out ++ (codes "model 1.\nsize " ++ d ++ line_end ++ b ++ p)
put_order out d b p = simp append_assoc

-- the canonical text of a structure spells it
text_spells : (m : Finite) → AllByRecursion PlaceIsNamed m.places → AllByRecursion FactIsNamed m.facts → IsSound m → IsModelOf (model_text m) m
text_spells m places facts sound =
    let g = (model_piece m places facts sound).give 0 [] tt in
    let ts = g.0 in
    let spelled = g.1.at ts (each_is_among ts) in
    let reads = g.2 [] (stop refl) in (
      ts,
      subst (λ x. AreTokens x ts) (append-nil (model_text m)) (subst (λ us. Reads IsEnd 0 (model_text m ++ []) us) (append-nil ts) reads),
      record {
        spelled = subst (λ v. SpelledAs models Value (model_making ts) (Row rule.Text) v (marked ts)) spelled.2 spelled.1;
        sound = sound;
      },
    )

-- a text that is the canonical one of a structure spells it
pub spells : (m : Finite) (text : Text) → text ≡ model_text m → AllByRecursion PlaceIsNamed m.places → AllByRecursion FactIsNamed m.facts →
    IsSound m → IsModelOf text m
spells m text same places facts sound = subst (λ bytes. IsModelOf bytes m) (sym same) (text_spells m places facts sound)
