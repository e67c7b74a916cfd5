-- Atoms as pieces of a text.
use Rattle.std.specs.Prelude.{◌≡◌, ◌==◌, ◌&&◌, not, Bool, true, false, List, [], ◌∷◌, ◌++◌, map, Option, Some, None, codes}
use Rattle.std.specs.List.{list_all}
use Rattle.std.proofs.Common.{refl, sym, ◌∙◌, ap, subst, arith, inl, inr, append_assoc}
use Rattle.std.proofs.lemmas.List.{append-nil}
use Rattle.std.proofs.lemmas.Bool.{cond_both, false≢true}
use Rattle.text_core.specs.Names.{Text, is_lower, is_word, is_word_from}
use Rattle.text_core.specs.NameTexts.{IsNameText}
use Rattle.text_core.proofs.Laws.{and_both, not_passes, number_same}
use Rattle.tptp_lexer.specs.Written.{joined_texts}
use Rattle.tptp_lexer.proofs.Laws.{NoWord, joined_led}
use Rattle.coherent_form.specs.Tasks.{CitedTask}
use Rattle.proof_text.specs.declared.body.NamedAtom.{NamedAtom}
use Rattle.proof_text.specs.declared.part.Act as Act
use Rattle.proof_text.specs.declared.part.Act.TheVariants as act
use Rattle.proof_text.specs.declared.part.Naming.TheVariants as naming
use Rattle.proof_text.specs.Named.{NamesAreNamed, AtomIsNamed, PredicateIsNamed}
use Rattle.proof_text.specs.Proper.{AtomIsProper, HasArguments}
use Rattle.proof_text.specs.Values.{atom_of, equation}
use Rattle.isar_text.specs.declared.fixed.Fixed.TheVariants as fixed
use Rattle.isar_text.specs.declared.part.IsarPart.TheVariants.{Row}
use Rattle.isar_text.specs.declared.part.Rule.TheVariants as rule
use Rattle.isar_text.specs.Names.{isar_name, is_plain, hex_text, has_prefix, is_reserved}
use Rattle.isar_text.specs.Heads.{spaced}
use Rattle.isar_text.specs.Formulas.{applied_text, atom_text}
use Rattle.isar_text.specs.Grammar.{arguments}
use Rattle.isar_text.specs.Values.{name_in}
use Rattle.isar_text.proofs.TokenLaws.{NoStar, Gives, before, equal_gives, not_equal_gives, tilde_gives}
use Rattle.isar_text.proofs.Standing.{Spells, SpellsRow}
use Rattle.isar_text.proofs.TakenPieces.{blank_after, blank_before, sign_piece, name_piece}
use Rattle.isar_text.proofs.RowPieces.{as_text, none_piece, and_then, and_last, rule_piece, acts_piece, same_list}
use Rattle.isar_text.proofs.NamePieces.{spaced_follow, spaced_led, more_words_piece}

-- a name and further ones behind blanks
name_and_words : (p : Text) (args : List Text) → isar_name p ++ spaced (map isar_name args) ≡ joined_texts (codes " ") (isar_name p ∷ map isar_name args)
name_and_words p args =
    ap (λ (t : Text). isar_name p ++ t) (spaced_led (map isar_name args)) ∙ sym (joined_led (codes " ") (isar_name p ∷ map isar_name args))

-- arguments, and what is done behind them
arguments_piece : (task : CitedTask) (does : Act.Act) (x : Text) (xs : List Text) → NamesAreNamed (x ∷ xs) →
    Gives NoWord (spaced (map isar_name (x ∷ xs))) (SpellsRow task (arguments does) (tt, (x, (xs, (tt, tt)))))
arguments_piece task does x xs named =
    and_then tt (x, (xs, (tt, tt))) (acts_piece task act.BeginNames)
    (and_then x (xs, (tt, tt)) (blank_before (name_piece task naming.Listed x named.0))
    (as_text (append-nil (spaced (map isar_name xs)))
    (and_then xs (tt, tt) (more_words_piece task xs named.1) (and_last tt (before (λ rest may. tt) (acts_piece task does))) (λ rest may. may)))
    (λ rest may. spaced_follow (map isar_name xs) rest may)) (λ rest may. tt)

-- what follows the name of an atom without a sign
after_name_piece : (task : CitedTask) (args : List Text) → NamesAreNamed args →
    Gives NoWord (spaced (map isar_name args)) (Spells task (Row rule.AfterName) (atom_of true args))
after_name_piece task [] named =
    rule_piece task rule.AfterName (inl tt) tt (atom_of true []) (λ lexed values mean. refl) (before (λ rest may. tt) (none_piece task))
after_name_piece task (x ∷ xs) named =
    rule_piece task rule.AfterName (inr (inl tt)) (tt, (x, (xs, (tt, tt)))) (atom_of true (x ∷ xs))
    (λ lexed values mean. ap (atom_of true) (same_list (name_in lexed.tokens values.1.0) x values.1.1.0 xs mean.1.0 mean.1.1.0))
    (arguments_piece task act.AddAtom x xs named)

-- what follows the predicate of a negated atom
after_negated_piece : (task : CitedTask) (args : List Text) → NamesAreNamed args →
    Gives NoWord (spaced (map isar_name args)) (Spells task (Row rule.AfterNegated) args)
after_negated_piece task [] named =
    rule_piece task rule.AfterNegated (inl tt) tt [] (λ lexed values mean. refl) (before (λ rest may. tt) (none_piece task))
after_negated_piece task (x ∷ xs) named =
    rule_piece task rule.AfterNegated (inr (inl tt)) (tt, (x, (xs, (tt, tt)))) (x ∷ xs)
    (λ lexed values mean. same_list (name_in lexed.tokens values.1.0) x values.1.1.0 xs mean.1.0 mean.1.1.0)
    (arguments_piece task act.AddNegated x xs named)

-- an atom of a predicate
predicate_piece : (task : CitedTask) (p : Text) (args : List Text) → IsNameText p → NamesAreNamed args →
    Gives NoWord (applied_text true (Some p) (map isar_name args)) (Spells task (Row rule.Atom) (atom_of true args p))
predicate_piece task p args name named =
    as_text (name_and_words p args)
    (rule_piece task rule.Atom (inl tt) (p, (atom_of true args, tt)) (atom_of true args p)
    (λ lexed values mean. ap (λ (f : Text → NamedAtom). f (name_in lexed.tokens values.0)) mean.1.0 ∙ ap (atom_of true args) mean.0)
    (and_then p (atom_of true args, tt) (name_piece task naming.Predicate p name) (and_last (atom_of true args) (after_name_piece task args named))
    (λ rest may. spaced_follow (map isar_name args) rest may)))

-- `~` in front of it
negated_piece : (task : CitedTask) (p : Text) (args : List Text) → IsNameText p → NamesAreNamed args →
    Gives NoWord (applied_text false (Some p) (map isar_name args)) (Spells task (Row rule.Atom) (atom_of false args p))
negated_piece task p args name named =
    as_text (ap (λ (t : Text). codes "~ " ++ t) (name_and_words p args))
    (rule_piece task rule.Atom (inr (inl tt)) (tt, (p, (args, tt))) (atom_of false args p)
    (λ lexed values mean. ap (λ (xs : List Text). atom_of false xs (name_in lexed.tokens values.1.0)) mean.1.1.0 ∙ ap (atom_of false args) mean.1.0)
    (and_then tt (p, (args, tt)) (blank_after (λ rest. refl) (sign_piece task fixed.Tilde act.Nothing tilde_gives))
    (and_then p (args, tt) (name_piece task naming.Predicate p name) (and_last args (after_negated_piece task args named))
    (λ rest may. spaced_follow (map isar_name args) rest may)) (λ rest may. tt)))

-- an equation
equation_piece : (task : CitedTask) (l r : Text) → IsNameText l → IsNameText r →
    Gives NoWord (isar_name l ++ codes " = " ++ isar_name r) (Spells task (Row rule.Atom) (equation true r l))
equation_piece task l r left right =
    as_text (sym (append_assoc (isar_name l) (codes " = ") (isar_name r)))
    (rule_piece task rule.Atom (inl tt) (l, (equation true r, tt)) (equation true r l)
    (λ lexed values mean. ap (λ (f : Text → NamedAtom). f (name_in lexed.tokens values.0)) mean.1.0 ∙ ap (equation true r) mean.0)
    (and_then l (equation true r, tt) (name_piece task naming.Predicate l left) (and_last (equation true r)
    (rule_piece task rule.AfterName (inr (inr (inl tt))) (tt, (r, tt)) (equation true r) (λ lexed values mean. ap (equation true) mean.1.0)
    (and_then tt (r, tt) (blank_before (blank_after (λ rest. tt) (sign_piece task fixed.Equal act.Nothing equal_gives)))
    (and_last r (name_piece task naming.Equal r right)) (λ rest may. tt)))) (λ rest may. refl)))

-- an inequality
inequality_piece : (task : CitedTask) (l r : Text) → IsNameText l → IsNameText r →
    Gives NoWord (isar_name l ++ codes " ~= " ++ isar_name r) (Spells task (Row rule.Atom) (equation false r l))
inequality_piece task l r left right =
    as_text (sym (append_assoc (isar_name l) (codes " ~= ") (isar_name r)))
    (rule_piece task rule.Atom (inl tt) (l, (equation false r, tt)) (equation false r l)
    (λ lexed values mean. ap (λ (f : Text → NamedAtom). f (name_in lexed.tokens values.0)) mean.1.0 ∙ ap (equation false r) mean.0)
    (and_then l (equation false r, tt) (name_piece task naming.Predicate l left) (and_last (equation false r)
    (rule_piece task rule.AfterName (inr (inr (inr (inl tt)))) (tt, (r, tt)) (equation false r) (λ lexed values mean. ap (equation false) mean.1.0)
    (and_then tt (r, tt) (blank_before (blank_after (λ rest. tt) (sign_piece task fixed.NotEqual act.Nothing not_equal_gives)))
    (and_last r (name_piece task naming.Unequal r right)) (λ rest may. tt)))) (λ rest may. refl)))

-- an atom, by its parts
by_parts : (task : CitedTask) (positive : Bool) (predicate : Option Text) (args : List Text) → PredicateIsNamed predicate → NamesAreNamed args →
    HasArguments predicate args →
    Gives NoWord (applied_text positive predicate (map isar_name args))
    (Spells task (Row rule.Atom) (record { positive = positive; predicate = predicate; args = args }))
by_parts task true (Some p) args name named has = predicate_piece task p args name named
by_parts task false (Some p) args name named has = negated_piece task p args name named
by_parts task positive None [] name named has = absurd (omega (arith, has))
by_parts task positive None (l ∷ []) name named has = absurd (omega (arith, has))
by_parts task true None (l ∷ r ∷ []) name named has = equation_piece task l r named.0 named.1.0
by_parts task false None (l ∷ r ∷ []) name named has = inequality_piece task l r named.0 named.1.0
by_parts task positive None (l ∷ r ∷ x ∷ xs) name named has = absurd (omega (arith, has))

-- an atom
pub atom_piece : (task : CitedTask) (a : NamedAtom) → AtomIsNamed a → AtomIsProper a → Gives NoWord (atom_text a) (Spells task (Row rule.Atom) a)
atom_piece task a named proper = by_parts task a.positive a.predicate a.args named.0 named.1 proper

-- a lower word does not begin with a star
lower_begins : (x more rest : Text) → is_word_from is_lower x ≡ true → NoStar ((x ++ more) ++ rest)
lower_begins [] more rest h = absurd (false≢true h)
lower_begins (b ∷ bs) more rest h =
    let lower : is_lower b ≡ true = (and_both (is_lower b) (list_all is_word bs) h).0 in
    not_passes (b == 42) (λ e. let same = number_same b 42 e in grind (arith, same, lower))

-- nor does a written name
name_begins : (x more rest : Text) → NoStar ((isar_name x ++ more) ++ rest)
name_begins x more rest = cond_both (is_plain x) x (codes "x_" ++ hex_text x) (λ t. NoStar ((t ++ more) ++ rest))
    (λ plain. lower_begins x more rest
    (and_both (is_word_from is_lower x) (not (has_prefix x)) (and_both (is_word_from is_lower x && not (has_prefix x)) (not (is_reserved x)) plain).0).0)
    (λ other. refl)

-- nor does an atom
parts_begin : (positive : Bool) (predicate : Option Text) (args : List Text) (rest : Text) → HasArguments predicate args →
    NoStar (applied_text positive predicate (map isar_name args) ++ rest)
parts_begin true (Some p) args rest has = subst (λ (t : Text). NoStar (t ++ rest)) (name_and_words p args) (name_begins p (spaced (map isar_name args)) rest)
parts_begin false (Some p) args rest has = refl
parts_begin positive None [] rest has = absurd (omega (arith, has))
parts_begin positive None (l ∷ []) rest has = absurd (omega (arith, has))
parts_begin true None (l ∷ r ∷ []) rest has =
    subst (λ (t : Text). NoStar (t ++ rest)) (sym (append_assoc (isar_name l) (codes " = ") (isar_name r))) (name_begins l (codes " = " ++ isar_name r) rest)
parts_begin false None (l ∷ r ∷ []) rest has =
    subst (λ (t : Text). NoStar (t ++ rest)) (sym (append_assoc (isar_name l) (codes " ~= ") (isar_name r))) (name_begins l (codes " ~= " ++ isar_name r) rest)
parts_begin positive None (l ∷ r ∷ x ∷ xs) rest has = absurd (omega (arith, has))

pub atom_begins : (a : NamedAtom) (rest : Text) → AtomIsProper a → NoStar (atom_text a ++ rest)
atom_begins a rest proper = parts_begin a.positive a.predicate a.args rest proper
