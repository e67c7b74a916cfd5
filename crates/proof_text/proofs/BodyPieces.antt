-- Bodies and scripts as pieces of a text: the canonical text spells the script.
use Rattle.std.specs.Prelude.{◌≡◌, ℕ, suc, ◌+◌, ◌≤◌, List, [], ◌∷◌, ◌++◌, length, Option, Some, None, codes}
use Rattle.std.specs.Fmt.{decimal}
use Rattle.std.specs.List.{AllByRecursion}
use Rattle.std.proofs.Common.{refl, sym, ◌∙◌, ap, subst, inl, inr, append_assoc, length-append}
use Rattle.std.proofs.lemmas.List.{append-nil}
use Rattle.text_core.specs.Names.{Text}
use Rattle.text_core.proofs.Laws.{get_behind}
use Rattle.token_grammar.specs.SpelledAs.{SpelledAs}
use Rattle.tptp_lexer.specs.Tokens.{Token as LexToken, AreTokens, Reads, IsEnd, stop}
use Rattle.tptp_lexer.proofs.Laws.{Any, NoWord, Gives, before, blank_after, blank_before}
use Rattle.proof_text.specs.declared.body.NamedAtom.{NamedAtom}
use Rattle.proof_text.specs.declared.body.MpText.{MpText}
use Rattle.proof_text.specs.declared.body.CaseText.{CaseText}
use Rattle.proof_text.specs.declared.body.BodyText.{BodyText}
use Rattle.proof_text.specs.declared.body.EndText.{EndText, As, Efq, Gap, Cs', Cs, Row_of-CaseText, end_of-CaseText, more_of-CaseText}
use Rattle.proof_text.specs.declared.fixed.Fixed.TheVariants as fixed
use Rattle.proof_text.specs.declared.part.Edition as Edition
use Rattle.proof_text.specs.declared.part.Edition.TheVariants.{First, Second}
use Rattle.proof_text.specs.declared.part.TextPart.TheVariants.{Row}
use Rattle.proof_text.specs.declared.part.Counting.TheVariants as counting
use Rattle.proof_text.specs.declared.part.Rule.TheVariants as rule
use Rattle.proof_text.specs.declared.part.Act.TheVariants as act
use Rattle.proof_text.specs.declared.part.Pass.TheVariants as pass
use Rattle.proof_text.specs.Marks.{marked, most_number}
use Rattle.proof_text.specs.Grammar.{proof_texts}
use Rattle.proof_text.specs.Values.{Value, Written, with_step, proof_text_making}
use Rattle.proof_text.specs.Lines.{names_text}
use Rattle.proof_text.specs.Canonical.{shown_text, indent, line_end, step_text, steps_text, end_text, cases_text, body_text, script_text}
use Rattle.proof_text.specs.Named.{NamesAreNamed, AtomsAreNamed, ShownIsNamed, StepIsNamed, EndIsNamed, CasesAreNamed, ScriptIsNamed}
use Rattle.proof_text.specs.Proper.{IsShownIn, AtomsAreProper, StepIsProper, GapIsProper, EndIsProper, HasCase, CasesAreProper, IsProper, version_number}
use Rattle.proof_text.specs.Scripts.{IsScriptOf}
use Rattle.proof_text.proofs.Rows.{cases_of_row, Cs_shut}
use Rattle.proof_text.proofs.Standing.{Spells, StandAt}
use Rattle.proof_text.proofs.NumberPieces.{number_piece, within_piece, one_piece, two_piece}
use Rattle.proof_text.proofs.LinePieces.{as_text, none_piece, and_then, and_last, rule_piece, does_piece, same_list, names_piece, facts_piece}
use Rattle.proof_text.proofs.StepPieces.{keyword_piece, led_keyword, indented, dot_piece, step_piece}

-- texts of an end, in two orders
four_order : (a b c d e : Text) → (a ++ b) ++ ((c ++ d) ++ e) ≡ a ++ b ++ c ++ d ++ e
four_order a b c d e = simp append_assoc

-- six texts joined in pairs are the six in order
five_order : (a b c d e f : Text) → (a ++ b) ++ ((c ++ d) ++ (e ++ f)) ≡ a ++ b ++ c ++ d ++ e ++ f
five_order a b c d e f = simp append_assoc

-- four texts joined in pairs are the four in order
three_order : (a b c d : Text) → (a ++ b) ++ (c ++ d) ≡ a ++ b ++ c ++ d
three_order a b c d = simp append_assoc

-- the end by a disjunct of the goal
as_piece : (e : Edition.Edition) (level disjunct : ℕ) (names : List Text) → disjunct ≤ most_number → NamesAreNamed names →
    Gives Any (end_text level (As disjunct names)) (Spells (Row (rule.Finish e)) (As disjunct names))
as_piece First level disjunct names fits named =
    as_text (five_order (indent level) (codes "as ") (decimal disjunct) (codes " ") (names_text names) line_end)
    (rule_piece (rule.Finish First) (inl tt) (tt, (disjunct, (names, (tt, tt)))) (As disjunct names)
    (λ all values mean. ap (λ (n : ℕ). As n values.1.1.0) mean.1.0 ∙ ap (As disjunct) mean.1.1.0)
    (and_then tt (disjunct, (names, (tt, tt))) (indented level (led_keyword fixed.As act.Nothing refl refl))
    (and_then disjunct (names, (tt, tt)) (blank_after (λ rest. refl) (number_piece counting.Disjunct (λ m e. e) disjunct fits))
    (and_then names (tt, tt) (names_piece names named) (and_last tt (dot_piece act.EndAs)) (λ rest may. tt)) (λ rest may. tt)) (λ rest may. tt)))
as_piece Second level disjunct names fits named =
    as_text (five_order (indent level) (codes "as ") (decimal disjunct) (codes " ") (names_text names) line_end)
    (rule_piece (rule.Finish Second) (inl tt) (tt, (disjunct, (names, (tt, tt)))) (As disjunct names)
    (λ all values mean. ap (λ (n : ℕ). As n values.1.1.0) mean.1.0 ∙ ap (As disjunct) mean.1.1.0)
    (and_then tt (disjunct, (names, (tt, tt))) (indented level (led_keyword fixed.As act.Nothing refl refl))
    (and_then disjunct (names, (tt, tt)) (blank_after (λ rest. refl) (number_piece counting.Disjunct (λ m e. e) disjunct fits))
    (and_then names (tt, tt) (names_piece names named) (and_last tt (dot_piece act.EndAs)) (λ rest may. tt)) (λ rest may. tt)) (λ rest may. tt)))

-- two texts behind blanks
two_order : (a b c : Text) → (a ++ b) ++ c ≡ a ++ b ++ c
two_order a b c = refl

-- the end by falsehood
efq_piece : (e : Edition.Edition) (level : ℕ) → Gives Any (end_text level Efq) (Spells (Row (rule.Finish e)) Efq)
efq_piece First level =
    rule_piece (rule.Finish First) (inr (inl tt)) (tt, (tt, tt)) Efq (λ all values mean. refl)
    (and_then tt (tt, tt) (indented level (keyword_piece fixed.Efq act.Nothing refl refl)) (and_last tt (dot_piece act.EndEfq)) (λ rest may. refl))
efq_piece Second level =
    rule_piece (rule.Finish Second) (inr (inl tt)) (tt, (tt, tt)) Efq (λ all values mean. refl)
    (and_then tt (tt, tt) (indented level (keyword_piece fixed.Efq act.Nothing refl refl)) (and_last tt (dot_piece act.EndEfq)) (λ rest may. refl))

-- the end by a gap
gap_piece : (e : Edition.Edition) (level within : ℕ) → GapIsProper e within → Gives Any (end_text level (Gap within)) (Spells (Row (rule.Finish e)) (Gap within))
gap_piece First level within proper = absurd proper
gap_piece Second level within proper =
    as_text (three_order (indent level) (codes "gap ") (decimal within) line_end)
    (rule_piece (rule.Finish Second) (inr (inr (inr (inl tt)))) (tt, (within, (tt, tt))) (Gap within) (λ all values mean. ap Gap mean.1.0)
    (and_then tt (within, (tt, tt)) (indented level (led_keyword fixed.Gap act.Nothing refl refl))
    (and_then within (tt, tt) (within_piece within proper.0 proper.1) (and_last tt (dot_piece act.EndGap)) (λ rest may. refl)) (λ rest may. tt)))

-- the facts of a case, and the end of its line
head_piece : (e : Edition.Edition) (facts : Option (List NamedAtom)) → ShownIsNamed AtomsAreNamed facts → IsShownIn e AtomsAreProper facts →
    Gives Any (shown_text facts ++ line_end) (Spells (Row (rule.CaseHead e)) facts)
head_piece First None named proper = absurd proper
head_piece Second None named proper =
    rule_piece (rule.CaseHead Second) (inr (inl tt)) (tt, tt) None (λ all values mean. refl) (and_last tt (dot_piece act.BareCase))
head_piece First (Some facts) named proper =
    rule_piece (rule.CaseHead First) (inl tt) (facts, (tt, tt)) (Some facts) (λ all values mean. ap Some mean.0)
    (and_then facts (tt, tt) (blank_before (facts_piece facts named proper)) (and_last tt (dot_piece act.ShowCase)) (λ rest may. refl))
head_piece Second (Some facts) named proper =
    rule_piece (rule.CaseHead Second) (inl tt) (facts, (tt, tt)) (Some facts) (λ all values mean. ap Some mean.0)
    (and_then facts (tt, tt) (blank_before (facts_piece facts named proper)) (and_last tt (dot_piece act.ShowCase)) (λ rest may. refl))

-- what follows the word of a case does not go on with it
head_follows : (facts : Option (List NamedAtom)) (rest more : Text) → NoWord (((shown_text facts ++ line_end) ++ more) ++ rest)
head_follows None rest more = refl
head_follows (Some facts) rest more = refl

-- a body, a case and a script, by their parts
abbrev body_of : List MpText → EndText → BodyText
body_of steps end = record { steps = steps; end = end }

-- a case with these facts and this body
abbrev case_of : Option (List NamedAtom) → BodyText → CaseText
case_of facts body = record { shown = facts; body = body }

-- a script with this version, these names and this body
abbrev written : ℕ → List Text → BodyText → Written
written n names body = record { version = n; take = names; body = body }

-- steps in front of an end
body_piece : (e : Edition.Edition) (level : ℕ) (steps : List MpText) (end : EndText) → AllByRecursion StepIsNamed steps →
    AllByRecursion (StepIsProper e) steps → Gives Any (end_text level end) (Spells (Row (rule.Finish e)) end) →
    Gives Any (steps_text level steps ++ end_text level end) (Spells (Row (rule.Body e)) (record { steps = steps; end = end }))
body_piece e level [] end named proper last =
    rule_piece (rule.Body e) (inr (inl tt)) (end, tt) (record { steps = []; end = end })
    (λ all values mean. ap (body_of []) mean.0) (and_last end last)
body_piece e level (step ∷ steps) end named proper last =
    as_text (sym (append_assoc (step_text level step) (steps_text level steps) (end_text level end)))
    (rule_piece (rule.Body e) (inl tt) (step, (record { steps = steps; end = end }, tt)) (record { steps = step ∷ steps; end = end })
    (λ all values mean. ap (λ (s : MpText). with_step s values.1.0) mean.0 ∙ ap (with_step step) mean.1.0)
    (and_then step (record { steps = steps; end = end }, tt) (step_piece e level step named.0 proper.0)
    (and_last (record { steps = steps; end = end }) (body_piece e level steps end named.1 proper.1 last)) (λ rest may. tt)))

-- texts of a case, in two orders
case_order : (a b c d e f : Text) → (a ++ b) ++ ((c ++ d) ++ (e ++ f)) ≡ a ++ b ++ c ++ d ++ e ++ f
case_order a b c d e f = simp append_assoc

-- a case
case_piece : (e : Edition.Edition) (level : ℕ) (facts : Option (List NamedAtom)) (steps : List MpText) (end : EndText) →
    ShownIsNamed AtomsAreNamed facts → AllByRecursion StepIsNamed steps → IsShownIn e AtomsAreProper facts → AllByRecursion (StepIsProper e) steps →
    Gives Any (end_text (suc level) end) (Spells (Row (rule.Finish e)) end) →
    Gives Any (indent level ++ codes "case" ++ shown_text facts ++ line_end ++ steps_text (suc level) steps ++ end_text (suc level) end)
    (Spells (Row (rule.Case e)) (record { shown = facts; body = record { steps = steps; end = end } }))
case_piece e level facts steps end named steps_named proper steps_proper last =
    as_text (ap (λ (t : Text). (indent level ++ codes "case") ++ ((shown_text facts ++ line_end) ++ t)) (append-nil (steps_text (suc level) steps ++ end_text (suc level) end)) ∙
    case_order (indent level) (codes "case") (shown_text facts) line_end (steps_text (suc level) steps) (end_text (suc level) end))
    (rule_piece (rule.Case e) (inl tt) (tt, (facts, (record { steps = steps; end = end }, (tt, tt)))) (case_of facts (record { steps = steps; end = end }))
    (λ all values mean. ap (λ (f : Option (List NamedAtom)). case_of f values.1.1.0) mean.1.0 ∙ ap (case_of facts) mean.1.1.0)
    (and_then tt (facts, (record { steps = steps; end = end }, (tt, tt))) (indented level (keyword_piece fixed.Case act.BeginCase refl refl))
    (and_then facts (record { steps = steps; end = end }, (tt, tt)) (head_piece e facts named proper)
    (and_then (record { steps = steps; end = end }) (tt, tt) (body_piece e (suc level) steps end steps_named steps_proper last)
    (and_last tt (does_piece pass.AddCase)) (λ rest may. tt)) (λ rest may. tt)) (λ rest may. head_follows facts rest _)))

-- texts of a split, in two orders
split_order : (a b c d f g h i j : Text) →
    (a ++ b) ++ (c ++ (d ++ (f ++ (g ++ ((h ++ i) ++ j))))) ≡ a ++ b ++ c ++ d ++ (f ++ g) ++ h ++ i ++ j
split_order a b c d f g h i j = simp append_assoc

-- a split of one case and further ones
split_piece : (e : Edition.Edition) (level line : ℕ) (c : CaseText) (cs : List CaseText) (first others : Text) → line ≤ most_number →
    Gives Any first (Spells (Row (rule.Case e)) c) → Gives Any others (Spells (Row (rule.MoreCases e)) cs) →
    Gives Any (indent level ++ codes "cs " ++ decimal line ++ line_end ++ (first ++ others) ++ indent level ++ codes "end" ++ line_end)
    (Spells (Row (rule.Finish e)) (Cs line (c ∷ cs)))
split_piece First level line c cs first others fits one more =
    as_text (split_order (indent level) (codes "cs ") (decimal line) line_end first others (indent level) (codes "end") line_end)
    (rule_piece (rule.Finish First) (inr (inr (inl tt))) (tt, (line, (tt, (c, (cs, (tt, tt)))))) (Cs line (c ∷ cs))
    (λ all values mean.
    ap (λ (n : ℕ). Cs n (values.1.1.1.0 ∷ values.1.1.1.1.0)) mean.1.0 ∙
    ap (Cs line) (same_list values.1.1.1.0 c values.1.1.1.1.0 cs mean.1.1.1.0 mean.1.1.1.1.0))
    (and_then tt (line, (tt, (c, (cs, (tt, tt))))) (indented level (led_keyword fixed.Cs act.Nothing refl refl))
    (and_then line (tt, (c, (cs, (tt, tt)))) (number_piece counting.Line (λ m e. e) line fits)
    (and_then tt (c, (cs, (tt, tt))) (dot_piece act.BeginSplit)
    (and_then c (cs, (tt, tt)) one
    (and_then cs (tt, tt) more (and_last tt (ending level)) (λ rest may. tt)) (λ rest may. tt)) (λ rest may. tt)) (λ rest may. refl)) (λ rest may. tt)))
  where
    ending : (level : ℕ) → Gives Any ((indent level ++ codes "end") ++ line_end) (Spells (Row rule.SplitEnd) tt)
    ending level = rule_piece rule.SplitEnd (inl tt) (tt, (tt, tt)) tt (λ all values mean. refl)
        (and_then tt (tt, tt) (indented level (keyword_piece fixed.End act.Nothing refl refl)) (and_last tt (dot_piece act.EndSplit)) (λ rest may. refl))
split_piece Second level line c cs first others fits one more =
    as_text (split_order (indent level) (codes "cs ") (decimal line) line_end first others (indent level) (codes "end") line_end)
    (rule_piece (rule.Finish Second) (inr (inr (inl tt))) (tt, (line, (tt, (c, (cs, (tt, tt)))))) (Cs line (c ∷ cs))
    (λ all values mean.
    ap (λ (n : ℕ). Cs n (values.1.1.1.0 ∷ values.1.1.1.1.0)) mean.1.0 ∙
    ap (Cs line) (same_list values.1.1.1.0 c values.1.1.1.1.0 cs mean.1.1.1.0 mean.1.1.1.1.0))
    (and_then tt (line, (tt, (c, (cs, (tt, tt))))) (indented level (led_keyword fixed.Cs act.Nothing refl refl))
    (and_then line (tt, (c, (cs, (tt, tt)))) (number_piece counting.Line (λ m e. e) line fits)
    (and_then tt (c, (cs, (tt, tt))) (dot_piece act.BeginSplit)
    (and_then c (cs, (tt, tt)) one
    (and_then cs (tt, tt) more (and_last tt (ending level)) (λ rest may. tt)) (λ rest may. tt)) (λ rest may. tt)) (λ rest may. refl)) (λ rest may. tt)))
  where
    ending : (level : ℕ) → Gives Any ((indent level ++ codes "end") ++ line_end) (Spells (Row rule.SplitEnd) tt)
    ending level = rule_piece rule.SplitEnd (inl tt) (tt, (tt, tt)) tt (λ all values mean. refl)
        (and_then tt (tt, tt) (indented level (keyword_piece fixed.End act.Nothing refl refl)) (and_last tt (dot_piece act.EndSplit)) (λ rest may. refl))

-- further cases
cases_first : (e : Edition.Edition) (c : CaseText) (cs : List CaseText) (first others : Text) → Gives Any first (Spells (Row (rule.Case e)) c) →
    Gives Any others (Spells (Row (rule.MoreCases e)) cs) → Gives Any (first ++ others) (Spells (Row (rule.MoreCases e)) (c ∷ cs))
cases_first e c cs first others one more =
    rule_piece (rule.MoreCases e) (inr (inl tt)) (c, (cs, tt)) (c ∷ cs) (λ all values mean. same_list values.0 c values.1.0 cs mean.0 mean.1.0)
    (and_then c (cs, tt) one (and_last cs more) (λ rest may. tt))

mutual
  -- an end
  end_piece : (e : Edition.Edition) (level : ℕ) (end : EndText) → EndIsNamed end → EndIsProper e end →
      Gives Any (end_text level end) (Spells (Row (rule.Finish e)) end)
  end_piece e level (As disjunct names) named proper = as_piece e level disjunct names named.0 named.1
  end_piece e level Efq named proper = efq_piece e level
  end_piece e level (Gap within) named proper = gap_piece e level within proper
  end_piece e level (Cs' line shape row) named proper =
      subst (λ f. Gives Any (end_text level (Cs' line shape row)) (Spells (Row (rule.Finish e)) f)) (sym (Cs_shut line shape row))
      (some_cases e level line row named.0 named.1 proper.0 proper.1)

  -- the cases of a split
  some_cases : {n : _} (e : Edition.Edition) (level line : ℕ) (row : Row_of-CaseText n) → line ≤ most_number → CasesAreNamed row → HasCase row →
      CasesAreProper e row →
      Gives Any (indent level ++ codes "cs " ++ decimal line ++ line_end ++ cases_text level row ++ indent level ++ codes "end" ++ line_end)
      (Spells (Row (rule.Finish e)) (Cs line (cases_of_row row)))
  some_cases e level line end_of-CaseText fits named has proper = absurd has
  some_cases e level line (more_of-CaseText facts steps end rest) fits named has proper =
      split_piece e level line (record { shown = facts; body = record { steps = steps; end = end } }) (cases_of_row rest)
      (indent level ++ codes "case" ++ shown_text facts ++ line_end ++ steps_text (suc level) steps ++ end_text (suc level) end)
      (cases_text level rest) fits
      (case_piece e level facts steps end named.0 named.1 proper.0 proper.1 (end_piece e (suc level) end named.2 proper.2))
      (more_cases_piece e level rest named.3 proper.3)

  -- further cases
  more_cases_piece : {n : _} (e : Edition.Edition) (level : ℕ) (row : Row_of-CaseText n) → CasesAreNamed row → CasesAreProper e row →
      Gives Any (cases_text level row) (Spells (Row (rule.MoreCases e)) (cases_of_row row))
  more_cases_piece e level end_of-CaseText named proper =
      rule_piece (rule.MoreCases e) (inl tt) tt [] (λ all values mean. refl) none_piece
  more_cases_piece e level (more_of-CaseText facts steps end rest) named proper =
      cases_first e (record { shown = facts; body = record { steps = steps; end = end } }) (cases_of_row rest)
      (indent level ++ codes "case" ++ shown_text facts ++ line_end ++ steps_text (suc level) steps ++ end_text (suc level) end)
      (cases_text level rest)
      (case_piece e level facts steps end named.0 named.1 proper.0 proper.1 (end_piece e (suc level) end named.2 proper.2))
      (more_cases_piece e level rest named.3 proper.3)

-- the names that are taken
head_of : (names : List Text) → NamesAreNamed names → Gives Any (line_end ++ (codes "take " ++ (names_text names ++ line_end))) (Spells (Row rule.Head) names)
head_of names named =
    rule_piece rule.Head (inl tt) (tt, (tt, (names, (tt, tt)))) names (λ all values mean. mean.1.1.0)
    (and_then tt (tt, (names, (tt, tt))) (dot_piece act.Nothing)
    (and_then tt (names, (tt, tt)) (led_keyword fixed.Take act.Nothing refl refl)
    (and_then names (tt, tt) (names_piece names named) (and_last tt (dot_piece act.TakeNames)) (λ rest may. tt)) (λ rest may. tt)) (λ rest may. tt))

-- texts of a script, in two orders
script_order : (a b c d f g h : Text) → a ++ (b ++ ((c ++ (d ++ (f ++ g))) ++ h)) ≡ a ++ b ++ c ++ d ++ f ++ g ++ h
script_order a b c d f g h = simp append_assoc

-- a script of a version
edition_piece : (e : Edition.Edition) (names : List Text) (body : BodyText) → NamesAreNamed names →
    Gives Any (body_text 0 body) (Spells (Row (rule.Body e)) body) →
    Gives Any (script_text (record { version = version_number e; take = names; body = body }))
    (Spells (Row rule.Text) (record { version = version_number e; take = names; body = body }))
edition_piece First names body named whole =
    as_text (script_order (codes "vernacular ") (decimal 1) line_end (codes "take ") (names_text names) line_end (body_text 0 body))
    (rule_piece rule.Text (inl tt) (tt, (written 1 names body, tt)) (written 1 names body) (λ all values mean. mean.1.0)
    (and_then tt (written 1 names body, tt) (led_keyword fixed.Vernacular act.Nothing refl refl) (and_last (written 1 names body)
    (rule_piece rule.Version (inl tt) (tt, (names, (body, tt))) (written 1 names body)
    (λ all values mean. ap (λ (xs : List Text). written 1 xs values.1.1.0) mean.1.0 ∙ ap (written 1 names) mean.1.1.0)
    (and_then tt (names, (body, tt)) (one_piece act.BeginFirst)
    (and_then names (body, tt) (head_of names named) (and_last body whole) (λ rest may. tt)) (λ rest may. refl)))) (λ rest may. tt)))
edition_piece Second names body named whole =
    as_text (script_order (codes "vernacular ") (decimal 2) line_end (codes "take ") (names_text names) line_end (body_text 0 body))
    (rule_piece rule.Text (inl tt) (tt, (written 2 names body, tt)) (written 2 names body) (λ all values mean. mean.1.0)
    (and_then tt (written 2 names body, tt) (led_keyword fixed.Vernacular act.Nothing refl refl) (and_last (written 2 names body)
    (rule_piece rule.Version (inr (inl tt)) (tt, (names, (body, tt))) (written 2 names body)
    (λ all values mean. ap (λ (xs : List Text). written 2 xs values.1.1.0) mean.1.0 ∙ ap (written 2 names) mean.1.1.0)
    (and_then tt (names, (body, tt)) (two_piece act.BeginSecond)
    (and_then names (body, tt) (head_of names named) (and_last body whole) (λ rest may. tt)) (λ rest may. refl)))) (λ rest may. tt)))

-- a script
script_piece : (script : Written) → ScriptIsNamed script → IsProper script → Gives Any (script_text script) (Spells (Row rule.Text) script)
script_piece script named proper =
    subst (λ n. Gives Any (script_text (written n script.take script.body)) (Spells (Row rule.Text) (written n script.take script.body))) (sym proper.version)
    (edition_piece proper.edition script.take script.body named.0
    (body_piece proper.edition 0 script.body.steps script.body.end named.1.0 proper.body.0
    (end_piece proper.edition 0 script.body.end named.1.1 proper.body.1)))

-- all tokens stand from number 0 on
stand_all : (before us : List LexToken) → StandAt (before ++ us) (length before) us
stand_all before [] = tt
stand_all before (t ∷ us) = (
  get_behind before t us,
  subst (λ (ts : List LexToken). StandAt ts (length before + 1) us) (append_assoc before (t ∷ []) us)
      (subst (λ (n : ℕ). StandAt ((before ++ (t ∷ [])) ++ us) n us) (length-append before (t ∷ [])) (stand_all (before ++ (t ∷ [])) us)),
)

-- the canonical text of a script spells it
pub text_spells : (script : Written) → ScriptIsNamed script → IsProper script → IsScriptOf (script_text script) script
text_spells script named proper =
    let g = (script_piece script named proper).give 0 [] tt in
    let ts = g.0 in
    let spelled = g.1.at ts 0 (stand_all [] ts) in
    let reads = g.2 [] (stop refl) in (
      ts,
      subst (λ x. AreTokens x ts) (append-nil (script_text script)) (subst (λ us. Reads IsEnd 0 (script_text script ++ []) us) (append-nil ts) reads),
      record {
        spelled = subst (λ v. SpelledAs proof_texts Value (proof_text_making ts) (Row rule.Text) v (marked ts)) spelled.2 spelled.1;
        bounded = proper.bounded;
      },
    )

-- a text that is the canonical one of a script spells it
pub spells : (script : Written) (text : Text) → text ≡ script_text script → ScriptIsNamed script → IsProper script → IsScriptOf text script
spells script text same named proper = subst (λ bytes. IsScriptOf bytes script) (sym same) (text_spells script named proper)
