-- Names, atoms and lines as pieces of a text.
use Rattle.std.specs.Prelude.{◌≡◌, ℕ, ◌==◌, Bool, true, false, List, [], ◌∷◌, ◌++◌, map, Option, Some, None, codes}
use Rattle.std.specs.List.{AllByRecursion, list_all}
use Rattle.std.proofs.Common.{refl, sym, ◌∙◌, ap, subst, arith, inl, inr, append_assoc}
use Rattle.std.proofs.lemmas.List.{append-nil}
use Rattle.std.proofs.lemmas.Bool.{cond_both, false≢true}
use Rattle.text_core.specs.Names.{Text, is_lower, is_word, is_word_from}
use Rattle.text_core.specs.NameTexts.{IsNameText}
use Rattle.text_core.proofs.Laws.{and_both, not_passes, number_same}
use Rattle.token_grammar.specs.Making.{Choice, element, RowValues}
use Rattle.token_grammar.specs.Productions.{made_at}
use Rattle.tptp_lexer.specs.declared.kind.Kind.TheVariants as kind
use Rattle.tptp_lexer.specs.Tokens.{Token as LexToken}
use Rattle.tptp_lexer.specs.Written.{escaped, word_text}
use Rattle.tptp_lexer.proofs.Laws.{Any, NoWord, Gives, nothing, seen, before, followed, led, joined_led, open_parenthesis, close_parenthesis, open_bracket, close_bracket, comma, equals, differs, ampersand, bar, dollar_word}
use Rattle.proof_text.proofs.SignPieces.{TildeEnds, tilde_alone}
use Rattle.proof_text.specs.declared.body.NamedAtom.{NamedAtom}
use Rattle.proof_text.specs.declared.body.Shown as Shown
use Rattle.proof_text.specs.declared.body.Shown.TheVariants as shown
use Rattle.proof_text.specs.declared.fixed.Fixed.TheVariants as fixed
use Rattle.proof_text.specs.declared.part.TextPart as TextPart
use Rattle.proof_text.specs.declared.part.TextPart.TheVariants.{Taken, Row}
use Rattle.proof_text.specs.declared.part.Taker.TheVariants as taker
use Rattle.proof_text.specs.declared.part.Naming.TheVariants as use_of
use Rattle.proof_text.specs.declared.part.Rule as Rule
use Rattle.proof_text.specs.declared.part.Rule.TheVariants as rule
use Rattle.proof_text.specs.declared.part.Act as Act
use Rattle.proof_text.specs.declared.part.Act.TheVariants as act
use Rattle.proof_text.specs.declared.part.Pass as Pass
use Rattle.proof_text.specs.declared.part.Pass.TheVariants as pass
use Rattle.proof_text.specs.Fixed.{dollar_of}
use Rattle.proof_text.specs.Grammar.{rows}
use Rattle.proof_text.specs.Values.{RuleValue, Value, makers, name_in, atom_of, equation, cases_of}
use Rattle.proof_text.specs.declared.wording.Wording.TheVariants.{Signs}
use Rattle.proof_text.specs.Lines.{listed_text, names_text, arguments_text, predicate_text, atom_text, atoms_text, facts_text, part_text, line_text}
use Rattle.proof_text.specs.Named.{NamesAreNamed, AtomIsNamed, AtomsAreNamed, LineIsNamed, PredicateIsNamed}
use Rattle.proof_text.specs.Proper.{AtomIsProper, AtomsAreProper, LineIsProper, HasArguments}
use Rattle.proof_text.proofs.Standing.{Spells, SpellsRow, Meaning, Meanings, EachMeans, no_members, member_first, rule_spelled}
use Rattle.proof_text.proofs.TokenPieces.{sign_piece, text_piece, word_piece}

-- the same piece, as another text that is the same
pub as_text : {may : Text → Type 0} {x y : Text} {S : List LexToken → Type 0} → x ≡ y → Gives may x S → Gives may y S
as_text {may = may} {S = S} e p = subst (λ t. Gives may t S) e p

-- no members
pub none_piece : Gives Any [] (SpellsRow [] tt)
none_piece = seen (λ ts s. subst (SpellsRow [] tt) (sym s) no_members) nothing

-- a member and further ones
pub and_then : {may fewer : Text → Type 0} {x y : Text} {p : TextPart.TextPart} {row : List TextPart.TextPart} (m : Meaning p) (ms : Meanings row) →
    Gives may x (Spells p m) → Gives fewer y (SpellsRow row ms) → ((rest : Text) → fewer rest → may (y ++ rest)) →
    Gives fewer (x ++ y) (SpellsRow (p ∷ row) (m, ms))
and_then {p = p} {row = row} m ms first later follows =
    seen (λ ts s. member_first p row m ms s.0 s.1 ts s.2 s.3 s.4) (followed first later follows)

-- the last member
pub and_last : {may : Text → Type 0} {x : Text} {p : TextPart.TextPart} (m : Meaning p) → Gives may x (Spells p m) →
    Gives may x (SpellsRow (p ∷ []) (m, tt))
and_last {p = p} m last = seen (λ ts s. member_first p [] m tt ts [] ts s no_members (sym (append-nil ts))) last

-- a rule, by the members of one of its rows
pub rule_piece : {may : Text → Type 0} {x : Text} (r : Rule.Rule) (choice : Choice (rows r)) (ms : Meanings (element (rows r) choice)) (m : RuleValue r) →
    ((all : List LexToken) (values : RowValues Value (element (rows r) choice)) → EachMeans all (element (rows r) choice) values ms →
    made_at Value (rows r) (makers all (Row r)) choice values ≡ m) →
    Gives may x (SpellsRow (element (rows r) choice) ms) → Gives may x (Spells (Row r) m)
rule_piece r choice ms m made p = seen (λ ts s. rule_spelled r choice ms m ts made s) p

-- nothing, where the builder does something
pub does_piece : (does : Pass.Pass) → Gives Any [] (Spells (Row (rule.Does does)) tt)
does_piece does = rule_piece (rule.Does does) (inl tt) tt tt (λ all values mean. refl) none_piece

-- equal heads and equal tails make equal lists
pub same_list : {X : Type 0} (x y : X) (xs ys : List X) → x ≡ y → xs ≡ ys → x ∷ xs ≡ y ∷ ys
same_list x y xs ys e f = ap (λ z. z ∷ xs) e ∙ ap (λ zs. y ∷ zs) f

-- further names follow a word
pub led_follows : (xs : List Text) (rest : Text) → NoWord rest → NoWord (led (codes ",") (codes ",") xs ++ rest)
led_follows [] rest may = may
led_follows (x ∷ xs) rest may = refl

-- further names
more_names_piece : (xs : List Text) → NamesAreNamed xs →
    Gives NoWord (led (codes ",") (codes ",") (map word_text xs)) (Spells (Row rule.MoreNames) xs)
more_names_piece [] named = rule_piece rule.MoreNames (inl tt) tt [] (λ all values mean. refl) (before (λ rest may. tt) none_piece)
more_names_piece (x ∷ xs) named =
    rule_piece rule.MoreNames (inr (inl tt)) (tt, (x, (xs, tt))) (x ∷ xs)
    (λ all values mean. same_list (name_in all values.1.0) x values.1.1.0 xs mean.1.0 mean.1.1.0)
    (and_then tt (x, (xs, tt)) (sign_piece kind.Comma fixed.Comma act.Nothing (λ text. refl) comma)
    (and_then x (xs, tt) (word_piece use_of.Listed (λ m e. e) x named.0) (and_last xs (more_names_piece xs named.1))
    (λ rest may. led_follows (map word_text xs) rest may)) (λ rest may. tt))

-- names between brackets
listed_names_piece : (xs : List Text) → NamesAreNamed xs → Gives NoWord (listed_text (map word_text xs)) (Spells (Row rule.ListedNames) xs)
listed_names_piece [] named = rule_piece rule.ListedNames (inl tt) tt [] (λ all values mean. refl) (before (λ rest may. tt) none_piece)
listed_names_piece (x ∷ xs) named =
    as_text (sym (joined_led (codes ",") (map word_text (x ∷ xs))))
    (rule_piece rule.ListedNames (inr (inl tt)) (x, (xs, tt)) (x ∷ xs)
    (λ all values mean. same_list (name_in all values.0) x values.1.0 xs mean.0 mean.1.0)
    (and_then x (xs, tt) (word_piece use_of.Listed (λ m e. e) x named.0) (and_last xs (more_names_piece xs named.1))
    (λ rest may. led_follows (map word_text xs) rest may)))

-- names in brackets
pub names_piece : (xs : List Text) → NamesAreNamed xs → Gives Any (names_text xs) (Spells (Row rule.Names) xs)
names_piece xs named =
    as_text (sym (append_assoc (codes "[") (listed_text (map word_text xs)) (codes "]")))
    (rule_piece rule.Names (inl tt) (tt, (xs, (tt, tt))) xs (λ all values mean. mean.1.0)
    (and_then tt (xs, (tt, tt)) (sign_piece kind.OpenBracket fixed.OpenBracket act.BeginNames (λ text. refl) open_bracket)
    (and_then xs (tt, tt) (listed_names_piece xs named)
    (and_last tt (sign_piece kind.CloseBracket fixed.CloseBracket act.Nothing (λ text. refl) close_bracket)) (λ rest may. refl)) (λ rest may. tt)))

-- arguments in brackets, and what is done behind them
bracketed : (does : Act.Act) (x : Text) (xs : List Text) → NamesAreNamed (x ∷ xs) →
    Gives Any (arguments_text (x ∷ xs))
    (SpellsRow (Taken (taker.Fixed fixed.OpenParenthesis act.BeginNames) ∷ Taken (taker.Name use_of.Listed) ∷ Row rule.MoreNames ∷
    Taken (taker.Fixed fixed.CloseParenthesis does) ∷ []) (tt, (x, (xs, (tt, tt)))))
bracketed does x xs named =
    as_text (same_text (led (codes ",") (codes ",") (map word_text xs)) (joined_led (codes ",") (map word_text (x ∷ xs))))
    (and_then tt (x, (xs, (tt, tt))) (sign_piece kind.OpenParenthesis fixed.OpenParenthesis act.BeginNames (λ text. refl) open_parenthesis)
    (and_then x (xs, (tt, tt)) (word_piece use_of.Listed (λ m e. e) x named.0)
    (and_then xs (tt, tt) (more_names_piece xs named.1)
    (and_last tt (sign_piece kind.CloseParenthesis fixed.CloseParenthesis does (λ text. refl) close_parenthesis)) (λ rest may. refl))
    (λ rest may. args_follow (map word_text xs) rest)) (λ rest may. tt))
  where
    args_follow : (ys : List Text) (rest : Text) → NoWord ((led (codes ",") (codes ",") ys ++ codes ")") ++ rest)
    args_follow [] rest = refl
    args_follow (y ∷ ys) rest = refl

    same_text : (more : Text) → listed_text (map word_text (x ∷ xs)) ≡ [] ++ (word_text x ++ more) →
        codes "(" ++ (word_text x ++ (more ++ codes ")")) ≡ codes "(" ++ listed_text (map word_text (x ∷ xs)) ++ codes ")"
    same_text more e =
        ap (λ (t : Text). codes "(" ++ t) (sym (append_assoc (word_text x) more (codes ")"))) ∙
        sym (append_assoc (codes "(") (word_text x ++ more) (codes ")")) ∙
        ap (λ (t : Text). codes "(" ++ t ++ codes ")") (sym e)

-- what follows the first word of an atom without a sign
after_word_piece : (args : List Text) → NamesAreNamed args → Gives NoWord (arguments_text args) (Spells (Row rule.AfterWord) (atom_of true args))
after_word_piece [] named =
    rule_piece rule.AfterWord (inl tt) tt (atom_of true []) (λ all values mean. refl) (before (λ rest may. tt) none_piece)
after_word_piece (x ∷ xs) named =
    rule_piece rule.AfterWord (inr (inl tt)) (tt, (x, (xs, (tt, tt)))) (atom_of true (x ∷ xs))
    (λ all values mean. ap (atom_of true) (same_list (name_in all values.1.0) x values.1.1.0 xs mean.1.0 mean.1.1.0))
    (before (λ rest may. tt) (bracketed act.AddAtom x xs named))

-- what follows the predicate of a negated atom
after_negated_piece : (args : List Text) → NamesAreNamed args → Gives NoWord (arguments_text args) (Spells (Row rule.AfterNegated) args)
after_negated_piece [] named =
    rule_piece rule.AfterNegated (inl tt) tt [] (λ all values mean. refl) (before (λ rest may. tt) none_piece)
after_negated_piece (x ∷ xs) named =
    rule_piece rule.AfterNegated (inr (inl tt)) (tt, (x, (xs, (tt, tt)))) (x ∷ xs)
    (λ all values mean. same_list (name_in all values.1.0) x values.1.1.0 xs mean.1.0 mean.1.1.0)
    (before (λ rest may. tt) (bracketed act.AddNegated x xs named))

-- what follows a word does not go on with it
arguments_follow : (args : List Text) (rest : Text) → NoWord rest → NoWord (arguments_text args ++ rest)
arguments_follow [] rest may = may
arguments_follow (x ∷ xs) rest may = refl

-- an atom of a predicate
predicate_piece : (p : Text) (args : List Text) → IsNameText p → NamesAreNamed args →
    Gives NoWord (word_text p ++ arguments_text args) (Spells (Row rule.Atom) (atom_of true args p))
predicate_piece p args name named =
    rule_piece rule.Atom (inl tt) (p, (atom_of true args, tt)) (atom_of true args p)
    (λ all values mean. ap (λ (f : Text → NamedAtom). f (name_in all values.0)) mean.1.0 ∙ ap (atom_of true args) mean.0)
    (and_then p (atom_of true args, tt) (word_piece use_of.Predicate (λ m e. e) p name) (and_last (atom_of true args) (after_word_piece args named))
    (arguments_follow args))

-- how a word begins: with a letter or a quote, and not with `|` (124) or `&` (38)
pub record Begins (w : Text) : Type 0 where
  pub first : ℕ
  pub others : Text
  pub is : w ≡ first ∷ others
  pub no_bar : (first == 124) ≡ false
  pub no_and : (first == 38) ≡ false

-- a lower word begins so
lower_begins : (x : Text) → is_word_from is_lower x ≡ true → Begins x
lower_begins [] h = absurd (false≢true h)
lower_begins (b ∷ bs) h =
    let lower = (and_both (is_lower b) (list_all is_word bs) h).0 in
    record { first = b; others = bs; is = refl; no_bar = low b lower; no_and = high b lower }
  where
    low : (b : ℕ) → is_lower b ≡ true → (b == 124) ≡ false
    low b h = not_passes (b == 124) (λ e. let same = number_same b 124 e in grind (arith, same, h))

    high : (b : ℕ) → is_lower b ≡ true → (b == 38) ≡ false
    high b h = not_passes (b == 38) (λ e. let same = number_same b 38 e in grind (arith, same, h))

-- so does each word
pub begins_word : (x : Text) → Begins (word_text x)
begins_word x = cond_both (is_word_from is_lower x) x (39 ∷ (escaped x ++ (39 ∷ []))) Begins (lower_begins x)
    (λ h. record { first = 39; others = escaped x ++ (39 ∷ []); is = refl; no_bar = refl; no_and = refl })

-- a word may follow `~`
pub word_begins : (x more rest : Text) → TildeEnds ((word_text x ++ more) ++ rest)
word_begins x more rest =
    let w = begins_word x in
    subst (λ t. TildeEnds ((t ++ more) ++ rest)) (sym w.is) (w.no_bar, w.no_and)

-- `~` in front of a word
tilde_piece : (p : Text) (args : List Text) → IsNameText p → NamesAreNamed args →
    Gives NoWord (codes "~" ++ word_text p ++ arguments_text args) (Spells (Row rule.Atom) (atom_of false args p))
tilde_piece p args name named =
    as_text (sym (append_assoc (codes "~") (word_text p) (arguments_text args)))
    (rule_piece rule.Atom (inr (inl tt)) (tt, (p, (args, tt))) (atom_of false args p)
    (λ all values mean. ap (λ (xs : List Text). atom_of false xs (name_in all values.1.0)) mean.1.1.0 ∙ ap (atom_of false args) mean.1.0)
    (and_then tt (p, (args, tt)) (sign_piece kind.Tilde fixed.Tilde act.Nothing (λ text. refl) tilde_alone)
    (and_then p (args, tt) (word_piece use_of.Predicate (λ m e. e) p name) (and_last args (after_negated_piece args named))
    (arguments_follow args)) (λ rest may. word_begins p (arguments_text args) rest)))

-- an equation, or an inequality
equation_piece : (l r : Text) → IsNameText l → IsNameText r →
    Gives NoWord (word_text l ++ codes " = " ++ word_text r) (Spells (Row rule.Atom) (equation true r l))
equation_piece l r left right =
    as_text (sym (append_assoc (word_text l) (codes " = ") (word_text r)))
    (rule_piece rule.Atom (inl tt) (l, (equation true r, tt)) (equation true r l)
    (λ all values mean. ap (λ (f : Text → NamedAtom). f (name_in all values.0)) mean.1.0 ∙ ap (equation true r) mean.0)
    (and_then l (equation true r, tt) (word_piece use_of.Predicate (λ m e. e) l left) (and_last (equation true r)
    (rule_piece rule.AfterWord (inr (inr (inl tt))) (tt, (r, tt)) (equation true r) (λ all values mean. ap (equation true) mean.1.0)
    (and_then tt (r, tt) (sign_piece kind.Equal fixed.Equal act.Nothing (λ text. refl) equals)
    (and_last r (word_piece use_of.Equal (λ m e. e) r right)) (λ rest may. tt)))) (λ rest may. refl)))

-- an inequality is a piece that spells the complement of an equation
inequality_piece : (l r : Text) → IsNameText l → IsNameText r →
    Gives NoWord (word_text l ++ codes " != " ++ word_text r) (Spells (Row rule.Atom) (equation false r l))
inequality_piece l r left right =
    as_text (sym (append_assoc (word_text l) (codes " != ") (word_text r)))
    (rule_piece rule.Atom (inl tt) (l, (equation false r, tt)) (equation false r l)
    (λ all values mean. ap (λ (f : Text → NamedAtom). f (name_in all values.0)) mean.1.0 ∙ ap (equation false r) mean.0)
    (and_then l (equation false r, tt) (word_piece use_of.Predicate (λ m e. e) l left) (and_last (equation false r)
    (rule_piece rule.AfterWord (inr (inr (inr (inl tt)))) (tt, (r, tt)) (equation false r) (λ all values mean. ap (equation false) mean.1.0)
    (and_then tt (r, tt) (sign_piece kind.NotEqual fixed.NotEqual act.Nothing (λ text. refl) differs)
    (and_last r (word_piece use_of.Unequal (λ m e. e) r right)) (λ rest may. tt)))) (λ rest may. refl)))

-- an atom
by_parts : (positive : Bool) (predicate : Option Text) (args : List Text) → PredicateIsNamed predicate → NamesAreNamed args →
    HasArguments predicate args →
    Gives NoWord (predicate_text Signs positive predicate args)
    (Spells (Row rule.Atom) (record { positive = positive; predicate = predicate; args = args }))
by_parts true (Some p) args name named has = predicate_piece p args name named
by_parts false (Some p) args name named has = tilde_piece p args name named
by_parts positive None [] name named has = absurd (omega (arith, has))
by_parts positive None (l ∷ []) name named has = absurd (omega (arith, has))
by_parts true None (l ∷ r ∷ []) name named has = equation_piece l r named.0 named.1.0
by_parts false None (l ∷ r ∷ []) name named has = inequality_piece l r named.0 named.1.0
by_parts positive None (l ∷ r ∷ x ∷ xs) name named has = absurd (omega (arith, has))

-- an atom is a piece that spells it
pub atom_piece : (a : NamedAtom) → AtomIsNamed a → AtomIsProper a → Gives NoWord (atom_text Signs a) (Spells (Row rule.Atom) a)
atom_piece a named proper = by_parts a.positive a.predicate a.args named.0 named.1 proper

-- further atoms follow an atom
atoms_follow : (xs : List Text) (rest : Text) → NoWord rest → NoWord (led (codes " & ") (codes " & ") xs ++ rest)
atoms_follow [] rest may = may
atoms_follow (x ∷ xs) rest may = refl

-- further atoms
more_atoms_piece : (atoms : List NamedAtom) → AtomsAreNamed atoms → AtomsAreProper atoms →
    Gives NoWord (led (codes " & ") (codes " & ") (map (atom_text Signs) atoms)) (Spells (Row rule.MoreAtoms) atoms)
more_atoms_piece [] named proper = rule_piece rule.MoreAtoms (inl tt) tt [] (λ all values mean. refl) (before (λ rest may. tt) none_piece)
more_atoms_piece (a ∷ atoms) named proper =
    rule_piece rule.MoreAtoms (inr (inl tt)) (tt, (a, (atoms, tt))) (a ∷ atoms)
    (λ all values mean. same_list values.1.0 a values.1.1.0 atoms mean.1.0 mean.1.1.0)
    (and_then tt (a, (atoms, tt)) (sign_piece kind.Ampersand fixed.Ampersand act.Nothing (λ text. refl) ampersand)
    (and_then a (atoms, tt) (atom_piece a named.0 proper.0) (and_last atoms (more_atoms_piece atoms named.1 proper.1))
    (λ rest may. atoms_follow (map (atom_text Signs) atoms) rest may)) (λ rest may. tt))

-- `$true`
true_piece : (does : Act.Act) → Gives NoWord (codes "$true") (Spells (Taken (taker.Fixed fixed.True does)) tt)
unfolding dollar_of
true_piece does = text_piece kind.Dollar (codes "$true") fixed.True does refl (dollar_word (codes "true") refl)

-- facts
pub facts_piece : (atoms : List NamedAtom) → AtomsAreNamed atoms → AtomsAreProper atoms → Gives NoWord (facts_text Signs atoms) (Spells (Row rule.Facts) atoms)
facts_piece [] named proper =
    rule_piece rule.Facts (inl tt) (tt, tt) [] (λ all values mean. refl) (and_last tt (true_piece act.BeginAtoms))
facts_piece (a ∷ atoms) named proper =
    as_text (sym (joined_led (codes " & ") (map (atom_text Signs) (a ∷ atoms))))
    (rule_piece rule.Facts (inr (inl tt)) (tt, (a, (atoms, tt))) (a ∷ atoms)
    (λ all values mean. same_list values.1.0 a values.1.1.0 atoms mean.1.0 mean.1.1.0)
    (and_then tt (a, (atoms, tt)) (does_piece pass.BeginAtoms)
    (and_then a (atoms, tt) (atom_piece a named.0 proper.0) (and_last atoms (more_atoms_piece atoms named.1 proper.1))
    (λ rest may. atoms_follow (map (atom_text Signs) atoms) rest may)) (λ rest may. tt)))

-- texts of a group, in two orders
group_order : (a b c d e : Text) → a ++ (b ++ (c ++ (d ++ e))) ≡ (a ++ b ++ (c ++ d)) ++ e
group_order a b c d e = simp append_assoc

-- two or more atoms in brackets
group_piece : (a b : NamedAtom) (atoms : List NamedAtom) → AtomsAreNamed (a ∷ b ∷ atoms) → AtomsAreProper (a ∷ b ∷ atoms) →
    Gives Any (codes "(" ++ atoms_text Signs (a ∷ b ∷ atoms) ++ codes ")") (Spells (Row rule.Group) (a ∷ b ∷ atoms))
group_piece a b atoms named proper =
    as_text (same_text (led (codes " & ") (codes " & ") (map (atom_text Signs) atoms)) (joined_led (codes " & ") (map (atom_text Signs) (b ∷ atoms))))
    (rule_piece rule.Group (inl tt) (tt, (a, (tt, (b, (atoms, (tt, tt)))))) (a ∷ b ∷ atoms)
    (λ all values mean. same_list values.1.0 a (values.1.1.1.0 ∷ values.1.1.1.1.0) (b ∷ atoms) mean.1.0
    (same_list values.1.1.1.0 b values.1.1.1.1.0 atoms mean.1.1.1.0 mean.1.1.1.1.0))
    (and_then tt (a, (tt, (b, (atoms, (tt, tt))))) (sign_piece kind.OpenParenthesis fixed.OpenParenthesis act.BeginAtoms (λ text. refl) open_parenthesis)
    (and_then a (tt, (b, (atoms, (tt, tt)))) (atom_piece a named.0 proper.0)
    (and_then tt (b, (atoms, (tt, tt))) (sign_piece kind.Ampersand fixed.Ampersand act.Nothing (λ text. refl) ampersand)
    (and_then b (atoms, (tt, tt)) (atom_piece b named.1.0 proper.1.0)
    (and_then atoms (tt, tt) (more_atoms_piece atoms named.1.1 proper.1.1)
    (and_last tt (sign_piece kind.CloseParenthesis fixed.CloseParenthesis act.Nothing (λ text. refl) close_parenthesis)) (λ rest may. refl))
    (λ rest may. close_follows (map (atom_text Signs) atoms) rest)) (λ rest may. tt)) (λ rest may. refl)) (λ rest may. tt)))
  where
    close_follows : (xs : List Text) (rest : Text) → NoWord ((led (codes " & ") (codes " & ") xs ++ codes ")") ++ rest)
    close_follows [] rest = refl
    close_follows (x ∷ xs) rest = refl

    same_text : (more : Text) → atoms_text Signs (b ∷ atoms) ≡ [] ++ (atom_text Signs b ++ more) →
        codes "(" ++ (atom_text Signs a ++ (codes " & " ++ (atom_text Signs b ++ (more ++ codes ")")))) ≡
        codes "(" ++ atoms_text Signs (a ∷ b ∷ atoms) ++ codes ")"
    same_text more e =
        let inner = group_order (atom_text Signs a) (codes " & ") (atom_text Signs b) more (codes ")") in
        ap (λ (t : Text). codes "(" ++ t) inner ∙
        sym (append_assoc (codes "(") (atom_text Signs a ++ codes " & " ++ (atom_text Signs b ++ more)) (codes ")")) ∙
        ap (λ (t : Text). codes "(" ++ (atom_text Signs a ++ codes " & " ++ t) ++ codes ")") (sym e)

-- a part of a line
part_piece : (atoms : List NamedAtom) → AtomsAreNamed atoms → AtomsAreProper atoms → Gives NoWord (part_text Signs atoms) (Spells (Row rule.LinePart) atoms)
part_piece [] named proper =
    rule_piece rule.LinePart (inl tt) (tt, tt) [] (λ all values mean. refl) (and_last tt (true_piece act.BeginAtoms))
part_piece (a ∷ []) named proper =
    rule_piece rule.LinePart (inr (inl tt)) (tt, (a, tt)) (a ∷ []) (λ all values mean. ap (λ (x : NamedAtom). x ∷ []) mean.1.0)
    (and_then tt (a, tt) (does_piece pass.BeginAtoms) (and_last a (atom_piece a named.0 proper.0)) (λ rest may. tt))
part_piece (a ∷ b ∷ atoms) named proper =
    before (λ rest may. tt) (rule_piece rule.LinePart (inr (inr (inl tt))) (a ∷ b ∷ atoms, tt) (a ∷ b ∷ atoms) (λ all values mean. mean.0)
    (and_last (a ∷ b ∷ atoms) (group_piece a b atoms named proper)))

-- further parts follow a part
parts_follow : (xs : List Text) (rest : Text) → NoWord rest → NoWord (led (codes " | ") (codes " | ") xs ++ rest)
parts_follow [] rest may = may
parts_follow (x ∷ xs) rest may = refl

-- parts behind the second
bars_piece : (ps : List (List NamedAtom)) → AllByRecursion AtomsAreNamed ps → AllByRecursion AtomsAreProper ps →
    Gives NoWord (led (codes " | ") (codes " | ") (map (part_text Signs) ps)) (Spells (Row rule.Bars) ps)
bars_piece [] named proper = rule_piece rule.Bars (inl tt) tt [] (λ all values mean. refl) (before (λ rest may. tt) none_piece)
bars_piece (p ∷ ps) named proper =
    rule_piece rule.Bars (inr (inl tt)) (tt, (p, (ps, tt))) (p ∷ ps)
    (λ all values mean. same_list values.1.0 p values.1.1.0 ps mean.1.0 mean.1.1.0)
    (and_then tt (p, (ps, tt)) (sign_piece kind.Bar fixed.Bar act.AddPart (λ text. refl) bar)
    (and_then p (ps, tt) (part_piece p named.0 proper.0) (and_last ps (bars_piece ps named.1 proper.1))
    (λ rest may. parts_follow (map (part_text Signs) ps) rest may)) (λ rest may. tt))

-- the parts behind the first
further_piece : (p : List NamedAtom) (ps : List (List NamedAtom)) → AllByRecursion AtomsAreNamed (p ∷ ps) → AllByRecursion AtomsAreProper (p ∷ ps) →
    Gives NoWord (codes " | " ++ (part_text Signs p ++ led (codes " | ") (codes " | ") (map (part_text Signs) ps)))
    (SpellsRow (Taken (taker.Fixed fixed.Bar act.BeginParts) ∷ Row rule.LinePart ∷ Row rule.Bars ∷ []) (tt, (p, (ps, tt))))
further_piece p ps named proper =
    and_then tt (p, (ps, tt)) (sign_piece kind.Bar fixed.Bar act.BeginParts (λ text. refl) bar)
    (and_then p (ps, tt) (part_piece p named.0 proper.0) (and_last ps (bars_piece ps named.1 proper.1))
    (λ rest may. parts_follow (map (part_text Signs) ps) rest may)) (λ rest may. tt)

-- the line of parts
same_cases : (p : List NamedAtom) (ps : List (List NamedAtom)) (q : List NamedAtom) (qs : List (List NamedAtom)) → q ≡ p → qs ≡ ps →
    cases_of q qs ≡ cases_of p ps
same_cases p ps q qs e f = ap (λ x. cases_of x qs) e ∙ ap (cases_of p) f

-- a line of cases, by its first part
cases_piece : (first second : List NamedAtom) (others : List (List NamedAtom)) → AllByRecursion AtomsAreNamed (first ∷ second ∷ others) →
    AllByRecursion AtomsAreProper (first ∷ second ∷ others) →
    Gives NoWord (part_text Signs first ++ (codes " | " ++ (part_text Signs second ++ led (codes " | ") (codes " | ") (map (part_text Signs) others))))
    (Spells (Row rule.Line) (shown.Cases (first ∷ second ∷ others)))
cases_piece [] second others named proper =
    rule_piece rule.Line (inr (inl tt)) (tt, (cases_of second others, tt)) (shown.Cases ([] ∷ second ∷ others))
    (λ all values mean. ap (λ (f : List NamedAtom → Shown.Shown). f []) mean.1.0)
    (and_then tt (cases_of second others, tt) (true_piece act.BeginAtoms) (and_last (cases_of second others)
    (rule_piece rule.AfterTrue (inr (inl tt)) (tt, (second, (others, tt))) (cases_of second others)
    (λ all values mean. same_cases second others values.1.0 values.1.1.0 mean.1.0 mean.1.1.0) (further_piece second others named.1 proper.1)))
    (λ rest may. refl))
cases_piece (a ∷ []) second others named proper =
    rule_piece rule.Line (inr (inr (inl tt))) (tt, (a, (cases_of second others, tt))) (shown.Cases ((a ∷ []) ∷ second ∷ others))
    (λ all values mean. ap (λ (f : List NamedAtom → Shown.Shown). f (values.1.0 ∷ [])) mean.1.1.0 ∙ ap (λ (x : NamedAtom). cases_of second others (x ∷ [])) mean.1.0)
    (and_then tt (a, (cases_of second others, tt)) (does_piece pass.BeginAtoms)
    (and_then a (cases_of second others, tt) (atom_piece a named.0.0 proper.0.0) (and_last (cases_of second others)
    (rule_piece rule.AfterAtom (inr (inr (inl tt))) (tt, (second, (others, tt))) (cases_of second others)
    (λ all values mean. same_cases second others values.1.0 values.1.1.0 mean.1.0 mean.1.1.0) (further_piece second others named.1 proper.1)))
    (λ rest may. refl)) (λ rest may. tt))
cases_piece (a ∷ b ∷ atoms) second others named proper =
    rule_piece rule.Line (inr (inr (inr (inl tt)))) (a ∷ b ∷ atoms, (cases_of second others, tt)) (shown.Cases ((a ∷ b ∷ atoms) ∷ second ∷ others))
    (λ all values mean. ap (λ (f : List NamedAtom → Shown.Shown). f values.0) mean.1.0 ∙ ap (cases_of second others) mean.0)
    (and_then (a ∷ b ∷ atoms) (cases_of second others, tt) (group_piece a b atoms named.0 proper.0) (and_last (cases_of second others)
    (rule_piece rule.AfterGroup (inl tt) (tt, (second, (others, tt))) (cases_of second others)
    (λ all values mean. same_cases second others values.1.0 values.1.1.0 mean.1.0 mean.1.1.0) (further_piece second others named.1 proper.1)))
    (λ rest may. tt))

-- a line of facts
facts_line : (atoms : List NamedAtom) → AtomsAreNamed atoms → AtomsAreProper atoms → Gives NoWord (facts_text Signs atoms) (Spells (Row rule.Line) (shown.Facts atoms))
facts_line [] named proper =
    rule_piece rule.Line (inr (inl tt)) (tt, (shown.Facts, tt)) (shown.Facts [])
    (λ all values mean. ap (λ (f : List NamedAtom → Shown.Shown). f []) mean.1.0)
    (as_text (append-nil (codes "$true")) (and_then tt (shown.Facts, tt) (true_piece act.BeginAtoms) (and_last shown.Facts
    (rule_piece rule.AfterTrue (inl tt) tt shown.Facts (λ all values mean. refl) (before (λ rest may. tt) none_piece)))
    (λ rest may. may)))
facts_line (a ∷ []) named proper =
    rule_piece rule.Line (inr (inr (inl tt))) (tt, (a, (shown.Facts, tt))) (shown.Facts (a ∷ []))
    (λ all values mean. ap (λ (f : List NamedAtom → Shown.Shown). f (values.1.0 ∷ [])) mean.1.1.0 ∙ ap (λ (x : NamedAtom). shown.Facts (x ∷ [])) mean.1.0)
    (as_text (append-nil (atom_text Signs a)) (and_then tt (a, (shown.Facts, tt)) (does_piece pass.BeginAtoms)
    (and_then a (shown.Facts, tt) (atom_piece a named.0 proper.0) (and_last shown.Facts
    (rule_piece rule.AfterAtom (inl tt) tt shown.Facts (λ all values mean. refl) (before (λ rest may. tt) none_piece)))
    (λ rest may. may)) (λ rest may. tt)))
facts_line (a ∷ b ∷ atoms) named proper =
    as_text (sym (joined_led (codes " & ") (map (atom_text Signs) (a ∷ b ∷ atoms))))
    (rule_piece rule.Line (inr (inr (inl tt))) (tt, (a, ((λ (first : List NamedAtom). shown.Facts (first ++ (b ∷ atoms))), tt))) (shown.Facts (a ∷ b ∷ atoms))
    (λ all values mean. ap (λ (f : List NamedAtom → Shown.Shown). f (values.1.0 ∷ [])) mean.1.1.0 ∙ ap (λ (x : NamedAtom). shown.Facts ((x ∷ []) ++ (b ∷ atoms))) mean.1.0)
    (and_then tt (a, ((λ (first : List NamedAtom). shown.Facts (first ++ (b ∷ atoms))), tt)) (does_piece pass.BeginAtoms)
    (and_then a ((λ (first : List NamedAtom). shown.Facts (first ++ (b ∷ atoms))), tt) (atom_piece a named.0 proper.0) (and_last (λ (first : List NamedAtom). shown.Facts (first ++ (b ∷ atoms)))
    (rule_piece rule.AfterAtom (inr (inl tt)) (tt, (b, (atoms, (tt, tt)))) (λ (first : List NamedAtom). shown.Facts (first ++ (b ∷ atoms)))
    (λ all values mean. same_facts values.1.0 values.1.1.0 mean.1.0 mean.1.1.0)
    (and_then tt (b, (atoms, (tt, tt))) (sign_piece kind.Ampersand fixed.Ampersand act.Nothing (λ text. refl) ampersand)
    (and_then b (atoms, (tt, tt)) (atom_piece b named.1.0 proper.1.0)
    (as_text (append-nil (led (codes " & ") (codes " & ") (map (atom_text Signs) atoms)))
    (and_then atoms (tt, tt) (more_atoms_piece atoms named.1.1 proper.1.1) (and_last tt (before (λ rest may. tt) (does_piece pass.ShowFacts)))
    (λ rest may. may)))
    (λ rest may. atoms_follow (map (atom_text Signs) atoms) rest may)) (λ rest may. tt)))) (λ rest may. refl)) (λ rest may. tt)))
  where
    same_facts : (c : NamedAtom) (cs : List NamedAtom) → c ≡ b → cs ≡ atoms →
        ◌≡◌ {A = List NamedAtom → Shown.Shown} (λ first. shown.Facts (first ++ (c ∷ cs))) (λ first. shown.Facts (first ++ (b ∷ atoms)))
    same_facts c cs e f = ap (λ (xs : List NamedAtom). λ (first : List NamedAtom). shown.Facts (first ++ xs)) (same_list c b cs atoms e f)

-- a line
pub line_piece : (line : Shown.Shown) → LineIsNamed line → LineIsProper line → Gives NoWord (line_text Signs line) (Spells (Row rule.Line) line)
unfolding dollar_of
line_piece shown.Falsum named proper =
    rule_piece rule.Line (inl tt) (tt, tt) shown.Falsum (λ all values mean. refl)
    (and_last tt (text_piece kind.Dollar (codes "$false") fixed.False act.ShowFalsum refl (dollar_word (codes "false") refl)))
line_piece (shown.Facts atoms) named proper = facts_line atoms named proper
line_piece (shown.Cases []) named proper = absurd proper.0
line_piece (shown.Cases (p ∷ [])) named proper = absurd proper.0
line_piece (shown.Cases (p ∷ q ∷ ps)) named proper =
    as_text (sym (joined_led (codes " | ") (map (part_text Signs) (p ∷ q ∷ ps)))) (cases_piece p q ps named proper.1)
