-- Facts and lines as pieces of a text.
use Rattle.std.specs.Prelude.{◌≡◌, List, [], ◌∷◌, ◌++◌, map, codes}
use Rattle.std.specs.List.{AllByRecursion}
use Rattle.std.proofs.Common.{refl, sym, ◌∙◌, ap, subst, inl, inr, append_assoc}
use Rattle.std.proofs.lemmas.List.{append-nil}
use Rattle.text_core.specs.Names.{Text}
use Rattle.tptp_lexer.specs.Written.{joined_texts}
use Rattle.tptp_lexer.proofs.Laws.{Any, NoWord, led, joined_led}
use Rattle.coherent_form.specs.Tasks.{CitedTask}
use Rattle.proof_text.specs.declared.body.NamedAtom.{NamedAtom}
use Rattle.proof_text.specs.declared.body.Shown as Shown
use Rattle.proof_text.specs.declared.body.Shown.TheVariants as shown
use Rattle.proof_text.specs.declared.part.Act as Act
use Rattle.proof_text.specs.declared.part.Act.TheVariants as act
use Rattle.proof_text.specs.declared.part.Pass.TheVariants as pass
use Rattle.proof_text.specs.Named.{AtomsAreNamed, LineIsNamed}
use Rattle.proof_text.specs.Proper.{AtomIsProper, AtomsAreProper, LineIsProper}
use Rattle.proof_text.specs.Values.{cases_of}
use Rattle.isar_text.specs.declared.fixed.Fixed.TheVariants as fixed
use Rattle.isar_text.specs.declared.part.IsarPart.TheVariants.{Taken, Row}
use Rattle.isar_text.specs.declared.part.Taker.TheVariants as taker
use Rattle.isar_text.specs.declared.part.Rule.TheVariants as rule
use Rattle.isar_text.specs.Heads.{quoted}
use Rattle.isar_text.specs.Formulas.{atom_text, facts_text, part_text, line_text}
use Rattle.isar_text.specs.Grammar.{further_parts}
use Rattle.isar_text.proofs.TokenLaws.{NoStar, Gives, before, ampersand_gives, bar_gives, open_parenthesis_gives, close_parenthesis_gives, quote_gives}
use Rattle.isar_text.proofs.Standing.{Spells, SpellsRow}
use Rattle.isar_text.proofs.TakenPieces.{blank_after, blank_before, sign_piece, keyword_piece}
use Rattle.isar_text.proofs.RowPieces.{as_text, none_piece, and_then, and_last, rule_piece, does_piece, same_list}
use Rattle.isar_text.proofs.AtomPieces.{atom_piece, atom_begins}

-- `&` and `|` between blanks
ampersand_piece : (task : CitedTask) → Gives Any (codes " & ") (Spells task (Taken (taker.Fixed fixed.Ampersand act.Nothing)) tt)
ampersand_piece task = blank_before (blank_after (λ rest. tt) (sign_piece task fixed.Ampersand act.Nothing ampersand_gives))

bar_piece : (task : CitedTask) (does : Act.Act) → Gives Any (codes " | ") (Spells task (Taken (taker.Fixed fixed.Bar does)) tt)
bar_piece task does = blank_before (blank_after (λ rest. tt) (sign_piece task fixed.Bar does bar_gives))

-- further atoms follow an atom
atoms_follow : (xs : List Text) (rest : Text) → NoWord rest → NoWord (led (codes " & ") (codes " & ") xs ++ rest)
atoms_follow [] rest may = may
atoms_follow (x ∷ xs) rest may = refl

-- further atoms
more_atoms_piece : (task : CitedTask) (atoms : List NamedAtom) → AtomsAreNamed atoms → AtomsAreProper atoms →
    Gives NoWord (led (codes " & ") (codes " & ") (map atom_text atoms)) (Spells task (Row rule.MoreAtoms) atoms)
more_atoms_piece task [] named proper = rule_piece task rule.MoreAtoms (inl tt) tt [] (λ lexed values mean. refl) (before (λ rest may. tt) (none_piece task))
more_atoms_piece task (a ∷ atoms) named proper =
    rule_piece task rule.MoreAtoms (inr (inl tt)) (tt, (a, (atoms, tt))) (a ∷ atoms)
    (λ lexed values mean. same_list values.1.0 a values.1.1.0 atoms mean.1.0 mean.1.1.0)
    (and_then tt (a, (atoms, tt)) (ampersand_piece task)
    (and_then a (atoms, tt) (atom_piece task a named.0 proper.0) (and_last atoms (more_atoms_piece task atoms named.1 proper.1))
    (λ rest may. atoms_follow (map atom_text atoms) rest may)) (λ rest may. tt))

-- no facts
true_piece : (task : CitedTask) (does : Act.Act) → Gives NoWord (codes "True") (Spells task (Taken (taker.Fixed fixed.True does)) tt)
true_piece task does = keyword_piece task fixed.True does refl

-- facts
pub facts_piece : (task : CitedTask) (atoms : List NamedAtom) → AtomsAreNamed atoms → AtomsAreProper atoms →
    Gives NoWord (facts_text (map atom_text atoms)) (Spells task (Row rule.Facts) atoms)
facts_piece task [] named proper =
    rule_piece task rule.Facts (inl tt) (tt, tt) [] (λ lexed values mean. refl) (and_last tt (true_piece task act.BeginAtoms))
facts_piece task (a ∷ atoms) named proper =
    as_text (sym (joined_led (codes " & ") (map atom_text (a ∷ atoms))))
    (rule_piece task rule.Facts (inr (inl tt)) (tt, (a, (atoms, tt))) (a ∷ atoms)
    (λ lexed values mean. same_list values.1.0 a values.1.1.0 atoms mean.1.0 mean.1.1.0)
    (and_then tt (a, (atoms, tt)) (does_piece task pass.BeginAtoms)
    (and_then a (atoms, tt) (atom_piece task a named.0 proper.0) (and_last atoms (more_atoms_piece task atoms named.1 proper.1))
    (λ rest may. atoms_follow (map atom_text atoms) rest may)) (λ rest may. tt)))

-- what closes a group follows a word
close_follows : (xs : List Text) (rest : Text) → NoWord ((led (codes " & ") (codes " & ") xs ++ codes ")") ++ rest)
close_follows [] rest = refl
close_follows (x ∷ xs) rest = refl

-- texts of a group, in two orders
group_order : (a b c d e : Text) → a ++ (b ++ (c ++ (d ++ e))) ≡ (a ++ b ++ (c ++ d)) ++ e
group_order a b c d e = simp append_assoc

-- two or more texts in brackets
group_text : (a b more : Text) (xs : List Text) → joined_texts (codes " & ") (b ∷ xs) ≡ b ++ more →
    codes "(" ++ (a ++ (codes " & " ++ (b ++ (more ++ codes ")")))) ≡ codes "(" ++ joined_texts (codes " & ") (a ∷ b ∷ xs) ++ codes ")"
group_text a b more xs e =
    ap (λ (t : Text). codes "(" ++ t) (group_order a (codes " & ") b more (codes ")")) ∙
    sym (append_assoc (codes "(") (a ++ codes " & " ++ (b ++ more)) (codes ")")) ∙
    ap (λ (t : Text). codes "(" ++ (a ++ codes " & " ++ t) ++ codes ")") (sym e)

-- the atom behind an open bracket does not begin with a star
group_begins : (a : NamedAtom) (more rest : Text) → AtomIsProper a → NoStar ((atom_text a ++ more) ++ rest)
group_begins a more rest proper = subst NoStar (sym (append_assoc (atom_text a) more rest)) (atom_begins a (more ++ rest) proper)

-- two or more atoms in brackets
group_piece : (task : CitedTask) (a b : NamedAtom) (atoms : List NamedAtom) → AtomsAreNamed (a ∷ b ∷ atoms) → AtomsAreProper (a ∷ b ∷ atoms) →
    Gives Any (part_text (map atom_text (a ∷ b ∷ atoms))) (Spells task (Row rule.Group) (a ∷ b ∷ atoms))
group_piece task a b atoms named proper =
    as_text (group_text (atom_text a) (atom_text b) (led (codes " & ") (codes " & ") (map atom_text atoms)) (map atom_text atoms)
    (joined_led (codes " & ") (map atom_text (b ∷ atoms))))
    (rule_piece task rule.Group (inl tt) (tt, (a, (tt, (b, (atoms, (tt, tt)))))) (a ∷ b ∷ atoms)
    (λ lexed values mean. same_list values.1.0 a (values.1.1.1.0 ∷ values.1.1.1.1.0) (b ∷ atoms) mean.1.0
    (same_list values.1.1.1.0 b values.1.1.1.1.0 atoms mean.1.1.1.0 mean.1.1.1.1.0))
    (and_then tt (a, (tt, (b, (atoms, (tt, tt))))) (sign_piece task fixed.OpenParenthesis act.BeginAtoms open_parenthesis_gives)
    (and_then a (tt, (b, (atoms, (tt, tt)))) (atom_piece task a named.0 proper.0)
    (and_then tt (b, (atoms, (tt, tt))) (ampersand_piece task)
    (and_then b (atoms, (tt, tt)) (atom_piece task b named.1.0 proper.1.0)
    (and_then atoms (tt, tt) (more_atoms_piece task atoms named.1.1 proper.1.1)
    (and_last tt (sign_piece task fixed.CloseParenthesis act.Nothing close_parenthesis_gives)) (λ rest may. refl))
    (λ rest may. close_follows (map atom_text atoms) rest)) (λ rest may. tt)) (λ rest may. refl))
    (λ rest may. group_begins a _ rest proper.0)))

-- a part of a line
part_piece : (task : CitedTask) (atoms : List NamedAtom) → AtomsAreNamed atoms → AtomsAreProper atoms →
    Gives NoWord (part_text (map atom_text atoms)) (Spells task (Row rule.LinePart) atoms)
part_piece task [] named proper =
    rule_piece task rule.LinePart (inl tt) (tt, tt) [] (λ lexed values mean. refl) (and_last tt (true_piece task act.BeginAtoms))
part_piece task (a ∷ []) named proper =
    rule_piece task rule.LinePart (inr (inl tt)) (tt, (a, tt)) (a ∷ []) (λ lexed values mean. ap (λ (x : NamedAtom). x ∷ []) mean.1.0)
    (and_then tt (a, tt) (does_piece task pass.BeginAtoms) (and_last a (atom_piece task a named.0 proper.0)) (λ rest may. tt))
part_piece task (a ∷ b ∷ atoms) named proper =
    rule_piece task rule.LinePart (inr (inr (inl tt))) (a ∷ b ∷ atoms, tt) (a ∷ b ∷ atoms) (λ lexed values mean. mean.0)
    (and_last (a ∷ b ∷ atoms) (before (λ rest may. tt) (group_piece task a b atoms named proper)))

-- the text of a list of atoms as a part
abbrev part_of : List NamedAtom → Text
part_of atoms = part_text (map atom_text atoms)

-- further parts follow a part
parts_follow : (xs : List Text) (rest : Text) → NoWord rest → NoWord (led (codes " | ") (codes " | ") xs ++ rest)
parts_follow [] rest may = may
parts_follow (x ∷ xs) rest may = refl

-- parts behind the second
bars_piece : (task : CitedTask) (ps : List (List NamedAtom)) → AllByRecursion AtomsAreNamed ps → AllByRecursion AtomsAreProper ps →
    Gives NoWord (led (codes " | ") (codes " | ") (map part_of ps)) (Spells task (Row rule.Bars) ps)
bars_piece task [] named proper = rule_piece task rule.Bars (inl tt) tt [] (λ lexed values mean. refl) (before (λ rest may. tt) (none_piece task))
bars_piece task (p ∷ ps) named proper =
    rule_piece task rule.Bars (inr (inl tt)) (tt, (p, (ps, tt))) (p ∷ ps)
    (λ lexed values mean. same_list values.1.0 p values.1.1.0 ps mean.1.0 mean.1.1.0)
    (and_then tt (p, (ps, tt)) (bar_piece task act.AddPart)
    (and_then p (ps, tt) (part_piece task p named.0 proper.0) (and_last ps (bars_piece task ps named.1 proper.1))
    (λ rest may. parts_follow (map part_of ps) rest may)) (λ rest may. tt))

-- the parts behind the first
further_piece : (task : CitedTask) (p : List NamedAtom) (ps : List (List NamedAtom)) → AllByRecursion AtomsAreNamed (p ∷ ps) → AllByRecursion AtomsAreProper (p ∷ ps) →
    Gives NoWord (codes " | " ++ (part_of p ++ led (codes " | ") (codes " | ") (map part_of ps))) (SpellsRow task further_parts (tt, (p, (ps, tt))))
further_piece task p ps named proper =
    and_then tt (p, (ps, tt)) (bar_piece task act.BeginParts)
    (and_then p (ps, tt) (part_piece task p named.0 proper.0) (and_last ps (bars_piece task ps named.1 proper.1))
    (λ rest may. parts_follow (map part_of ps) rest may)) (λ rest may. tt)

-- a line of cases, by its parts
same_cases : (p : List NamedAtom) (ps : List (List NamedAtom)) (q : List NamedAtom) (qs : List (List NamedAtom)) → q ≡ p → qs ≡ ps →
    cases_of q qs ≡ cases_of p ps
same_cases p ps q qs e f = ap (λ x. cases_of x qs) e ∙ ap (cases_of p) f

-- a line of cases, by its first part
cases_piece : (task : CitedTask) (first second : List NamedAtom) (others : List (List NamedAtom)) → AllByRecursion AtomsAreNamed (first ∷ second ∷ others) →
    AllByRecursion AtomsAreProper (first ∷ second ∷ others) →
    Gives NoWord (part_of first ++ (codes " | " ++ (part_of second ++ led (codes " | ") (codes " | ") (map part_of others))))
    (Spells task (Row rule.Line) (shown.Cases (first ∷ second ∷ others)))
cases_piece task [] second others named proper =
    rule_piece task rule.Line (inr (inl tt)) (tt, (cases_of second others, tt)) (shown.Cases ([] ∷ second ∷ others))
    (λ lexed values mean. ap (λ (f : List NamedAtom → Shown.Shown). f []) mean.1.0)
    (and_then tt (cases_of second others, tt) (true_piece task act.BeginAtoms) (and_last (cases_of second others)
    (rule_piece task rule.AfterTrue (inr (inl tt)) (tt, (second, (others, tt))) (cases_of second others)
    (λ lexed values mean. same_cases second others values.1.0 values.1.1.0 mean.1.0 mean.1.1.0) (further_piece task second others named.1 proper.1)))
    (λ rest may. refl))
cases_piece task (a ∷ []) second others named proper =
    rule_piece task rule.Line (inr (inr (inl tt))) (tt, (a, (cases_of second others, tt))) (shown.Cases ((a ∷ []) ∷ second ∷ others))
    (λ lexed values mean. ap (λ (f : List NamedAtom → Shown.Shown). f (values.1.0 ∷ [])) mean.1.1.0 ∙ ap (λ (x : NamedAtom). cases_of second others (x ∷ [])) mean.1.0)
    (and_then tt (a, (cases_of second others, tt)) (does_piece task pass.BeginAtoms)
    (and_then a (cases_of second others, tt) (atom_piece task a named.0.0 proper.0.0) (and_last (cases_of second others)
    (rule_piece task rule.AfterAtom (inr (inr (inl tt))) (tt, (second, (others, tt))) (cases_of second others)
    (λ lexed values mean. same_cases second others values.1.0 values.1.1.0 mean.1.0 mean.1.1.0) (further_piece task second others named.1 proper.1)))
    (λ rest may. refl)) (λ rest may. tt))
cases_piece task (a ∷ b ∷ atoms) second others named proper =
    rule_piece task rule.Line (inr (inr (inr (inl tt)))) (a ∷ b ∷ atoms, (cases_of second others, tt)) (shown.Cases ((a ∷ b ∷ atoms) ∷ second ∷ others))
    (λ lexed values mean. ap (λ (f : List NamedAtom → Shown.Shown). f values.0) mean.1.0 ∙ ap (cases_of second others) mean.0)
    (and_then (a ∷ b ∷ atoms) (cases_of second others, tt) (group_piece task a b atoms named.0 proper.0) (and_last (cases_of second others)
    (rule_piece task rule.AfterGroup (inl tt) (tt, (second, (others, tt))) (cases_of second others)
    (λ lexed values mean. same_cases second others values.1.0 values.1.1.0 mean.1.0 mean.1.1.0) (further_piece task second others named.1 proper.1)))
    (λ rest may. tt))

-- a line of facts behind its first ones
abbrev facts_behind : List NamedAtom → List NamedAtom → Shown.Shown
facts_behind more first = shown.Facts (first ++ more)

-- a line of facts
facts_line : (task : CitedTask) (atoms : List NamedAtom) → AtomsAreNamed atoms → AtomsAreProper atoms →
    Gives NoWord (facts_text (map atom_text atoms)) (Spells task (Row rule.Line) (shown.Facts atoms))
facts_line task [] named proper =
    rule_piece task rule.Line (inr (inl tt)) (tt, (shown.Facts, tt)) (shown.Facts [])
    (λ lexed values mean. ap (λ (f : List NamedAtom → Shown.Shown). f []) mean.1.0)
    (as_text (append-nil (codes "True")) (and_then tt (shown.Facts, tt) (true_piece task act.BeginAtoms) (and_last shown.Facts
    (rule_piece task rule.AfterTrue (inl tt) tt shown.Facts (λ lexed values mean. refl) (before (λ rest may. tt) (none_piece task))))
    (λ rest may. may)))
facts_line task (a ∷ []) named proper =
    rule_piece task rule.Line (inr (inr (inl tt))) (tt, (a, (shown.Facts, tt))) (shown.Facts (a ∷ []))
    (λ lexed values mean. ap (λ (f : List NamedAtom → Shown.Shown). f (values.1.0 ∷ [])) mean.1.1.0 ∙ ap (λ (x : NamedAtom). shown.Facts (x ∷ [])) mean.1.0)
    (as_text (append-nil (atom_text a)) (and_then tt (a, (shown.Facts, tt)) (does_piece task pass.BeginAtoms)
    (and_then a (shown.Facts, tt) (atom_piece task a named.0 proper.0) (and_last shown.Facts
    (rule_piece task rule.AfterAtom (inl tt) tt shown.Facts (λ lexed values mean. refl) (before (λ rest may. tt) (none_piece task))))
    (λ rest may. may)) (λ rest may. tt)))
facts_line task (a ∷ b ∷ atoms) named proper =
    as_text (sym (joined_led (codes " & ") (map atom_text (a ∷ b ∷ atoms))))
    (rule_piece task rule.Line (inr (inr (inl tt))) (tt, (a, (facts_behind (b ∷ atoms), tt))) (shown.Facts (a ∷ b ∷ atoms))
    (λ lexed values mean. ap (λ (f : List NamedAtom → Shown.Shown). f (values.1.0 ∷ [])) mean.1.1.0 ∙ ap (λ (x : NamedAtom). facts_behind (b ∷ atoms) (x ∷ [])) mean.1.0)
    (and_then tt (a, (facts_behind (b ∷ atoms), tt)) (does_piece task pass.BeginAtoms)
    (and_then a (facts_behind (b ∷ atoms), tt) (atom_piece task a named.0 proper.0) (and_last (facts_behind (b ∷ atoms))
    (rule_piece task rule.AfterAtom (inr (inl tt)) (tt, (b, (atoms, (tt, tt)))) (facts_behind (b ∷ atoms))
    (λ lexed values mean. ap facts_behind (same_list values.1.0 b values.1.1.0 atoms mean.1.0 mean.1.1.0))
    (and_then tt (b, (atoms, (tt, tt))) (ampersand_piece task)
    (and_then b (atoms, (tt, tt)) (atom_piece task b named.1.0 proper.1.0)
    (as_text (append-nil (led (codes " & ") (codes " & ") (map atom_text atoms)))
    (and_then atoms (tt, tt) (more_atoms_piece task atoms named.1.1 proper.1.1) (and_last tt (before (λ rest may. tt) (does_piece task pass.ShowFacts)))
    (λ rest may. may)))
    (λ rest may. atoms_follow (map atom_text atoms) rest may)) (λ rest may. tt)))) (λ rest may. refl)) (λ rest may. tt)))

-- texts of parts are those of their atoms
parts_texts : (ps : List (List NamedAtom)) → map part_of ps ≡ map part_text (map (map atom_text) ps)
parts_texts [] = refl
parts_texts (p ∷ ps) = ap (λ (ts : List Text). part_of p ∷ ts) (parts_texts ps)

-- a line
line_piece : (task : CitedTask) (line : Shown.Shown) → LineIsNamed line → LineIsProper line → Gives NoWord (line_text line) (Spells task (Row rule.Line) line)
line_piece task shown.Falsum named proper =
    rule_piece task rule.Line (inl tt) (tt, tt) shown.Falsum (λ lexed values mean. refl) (and_last tt (keyword_piece task fixed.False act.ShowFalsum refl))
line_piece task (shown.Facts atoms) named proper = facts_line task atoms named proper
line_piece task (shown.Cases []) named proper = absurd proper.0
line_piece task (shown.Cases (p ∷ [])) named proper = absurd proper.0
line_piece task (shown.Cases (p ∷ q ∷ ps)) named proper =
    as_text (sym (joined_led (codes " | ") (map part_of (p ∷ q ∷ ps))) ∙ ap (joined_texts (codes " | ")) (parts_texts (p ∷ q ∷ ps)))
    (cases_piece task p q ps named proper.1)

-- a line in quotes
pub quoted_line_piece : (task : CitedTask) (line : Shown.Shown) → LineIsNamed line → LineIsProper line →
    Gives Any (quoted (line_text line)) (Spells task (Row rule.QuotedLine) line)
quoted_line_piece task line named proper =
    rule_piece task rule.QuotedLine (inl tt) (tt, (line, (tt, tt))) line (λ lexed values mean. mean.1.0)
    (and_then tt (line, (tt, tt)) (sign_piece task fixed.Quote act.Nothing quote_gives)
    (and_then line (tt, tt) (line_piece task line named proper) (and_last tt (sign_piece task fixed.Quote act.Nothing quote_gives)) (λ rest may. refl))
    (λ rest may. tt))

-- facts in quotes
pub quoted_facts_piece : (task : CitedTask) (atoms : List NamedAtom) → AtomsAreNamed atoms → AtomsAreProper atoms →
    Gives Any (quoted (facts_text (map atom_text atoms))) (Spells task (Row rule.QuotedFacts) atoms)
quoted_facts_piece task atoms named proper =
    rule_piece task rule.QuotedFacts (inl tt) (tt, (atoms, (tt, tt))) atoms (λ lexed values mean. mean.1.0)
    (and_then tt (atoms, (tt, tt)) (sign_piece task fixed.Quote act.Nothing quote_gives)
    (and_then atoms (tt, tt) (facts_piece task atoms named proper) (and_last tt (sign_piece task fixed.Quote act.ShowCase quote_gives)) (λ rest may. refl))
    (λ rest may. tt))
