-- Bodies as pieces of a text: the text of a proof spells the body that stands for it.
use Rattle.std.specs.Prelude.{◌≡◌, ℕ, ◌+◌, ◌<◌, ◌≤◌, List, [], ◌∷◌, ◌++◌, map, length, slice_get, unwrap_or, Option, Some}
use Rattle.std.specs.List.{AllByRecursion}
use Rattle.std.proofs.Common.{refl, sym, ◌∙◌, ap, subst, arith, inl, inr, append_assoc, length-append}
use Rattle.std.proofs.lemmas.Option.{slice_get_within}
use Rattle.text_core.specs.Names.{Text}
use Rattle.text_core.proofs.Laws.{each_back}
use Rattle.tptp_lexer.specs.Written.{joined_texts}
use Rattle.tptp_lexer.proofs.Laws.{Any, led, joined_led}
use Rattle.logic_core.specs.declared.form.Atom.{Atom}
use Rattle.logic_core.specs.declared.form.Form.{Form}
use Rattle.vernacular_tree.specs.Contexts.{counted, parameters, with_facts, after_mp}
use Rattle.vernacular_tree.specs.Rules.{StepsThen, Closes, EachProves}
use Rattle.vernacular_tree.specs.Sizes.{end_size, sizes}
use Rattle.vernacular_tree.specs.Witnessed.{LineIsBelow}
use Rattle.vernacular_tree.specs.declared.context.Line as Line
use Rattle.vernacular_tree.specs.declared.context.Line.TheVariants as line
use Rattle.vernacular_tree.specs.declared.context.Context.{Context}
use Rattle.vernacular_tree.specs.declared.tree.Mp.{Mp}
use Rattle.vernacular_tree.specs.declared.tree.End as tree
use Rattle.vernacular_tree.specs.declared.tree.End.{Row_of-Body, end_of-Body, more_of-Body}
use Rattle.coherent_form.specs.Kept.{IsRight}
use Rattle.coherent_form.specs.Tasks.{CitedTask, proof_task}
use Rattle.proof_text.specs.declared.body.MpText.{MpText}
use Rattle.proof_text.specs.declared.body.BodyText.{BodyText}
use Rattle.proof_text.specs.declared.body.CaseText.{CaseText}
use Rattle.proof_text.specs.declared.body.EndText.{EndText, Cs}
use Rattle.proof_text.specs.declared.part.Edition.TheVariants.{First}
use Rattle.proof_text.specs.Branches.{named_facts, shown_line}
use Rattle.proof_text.specs.Marks.{most_number}
use Rattle.proof_text.specs.Named.{AtomsAreNamed, LineIsNamed}
use Rattle.proof_text.specs.Proper.{HasTwo}
use Rattle.proof_text.specs.Printing.{printed, printed_facts}
use Rattle.proof_text.specs.ScriptOf.{names_in, form_of, fresh_of, line_by, step_of, steps_of, after_step_of, after_steps, lists_in, end_of, cases_of}
use Rattle.proof_text.specs.Showing.{LineFits, IsInside, MayStep}
use Rattle.proof_text.specs.Values.{with_step}
use Rattle.proof_text.proofs.Laws.{form_same, given_fits, step_inside, lists_fit, cases_inside, case_fits, case_below, facts_shown, line_shown, facts_proper, line_proper}
use Rattle.isar_text.specs.declared.part.IsarPart.TheVariants.{Row}
use Rattle.isar_text.specs.declared.part.Rule.TheVariants as rule
use Rattle.isar_text.specs.FirstLines.{first_falsum}
use Rattle.isar_text.specs.Bodies.{lines_with, step_text, steps_text, disjunct_of, split_text, next_text, qed_text, case_line, end_text, case_texts}
use Rattle.isar_text.specs.Named.{TablesAreNamed, EndFits, BranchesFit}
use Rattle.isar_text.proofs.TokenLaws.{Gives}
use Rattle.isar_text.proofs.Standing.{Spells}
use Rattle.isar_text.proofs.RowPieces.{as_text, none_piece, and_then, and_last, rule_piece}
use Rattle.isar_text.proofs.StepPieces.{step_piece}
use Rattle.isar_text.proofs.EndPieces.{body_with, case_with, as_piece, efq_piece, case_piece, next_case_piece, split_piece}
use Rattle.isar_text.proofs.Naming.{elements_named, facts_named, line_named}
use Rattle.isar_text.proofs.FirstBelow.{facts_below, falsum_below}

-- a step in front of a body
step_first : (task : CitedTask) (n : ℕ) (step : MpText) (body : BodyText) (first others : Text) → Gives Any first (Spells task (Row (rule.Step n)) step) →
    Gives Any others (Spells task (Row (rule.Body (n + 1))) body) → Gives Any (first ++ others) (Spells task (Row (rule.Body n)) (with_step step body))
step_first task n step body first others one more =
    rule_piece task (rule.Body n) (inl tt) (step, (body, tt)) (with_step step body) (λ lexed values mean. λ i. with_step (mean.0 i) (mean.1.0 i))
    (and_then step (body, tt) one (and_last body more) (λ rest may. tt))

-- an end alone
end_alone : (task : CitedTask) (n : ℕ) (end : EndText) (text : Text) → Gives Any text (Spells task (Row (rule.Finish n)) end) →
    Gives Any text (Spells task (Row (rule.Body n)) (body_with [] end))
end_alone task n end text p =
    rule_piece task (rule.Body n) (inr (inl tt)) (end, tt) (body_with [] end) (λ lexed values mean. ap (body_with []) mean.0) (and_last end p)

-- the same body behind as many lines
body_counted : (task : CitedTask) (m n : ℕ) (body : BodyText) (text : Text) → m ≡ n → Gives Any text (Spells task (Row (rule.Body m)) body) →
    Gives Any text (Spells task (Row (rule.Body n)) body)
body_counted task m n body text e p = subst (λ (k : ℕ). Gives Any text (Spells task (Row (rule.Body k)) body)) e p

module _ (task : CitedTask) (right : IsRight task) (named : TablesAreNamed task.tables) where
  -- how a line of a context inside a proof is shown
  line_shown_named : (n : ℕ) (l : Line.Line) → LineFits task.tables l → LineIsBelow n l →
      LineIsNamed (shown_line task.tables (map (printed task) (counted 0 n)) l)
  line_shown_named n l fits below = subst LineIsNamed (sym (line_shown task n l below)) (line_named task named l fits)

  -- a step that may be taken
  step_text_piece : (level : ℕ) (context : Context) (step : Mp) → IsInside task context → length context.lines ≤ most_number → MayStep task context step →
      Gives Any (step_text level (length context.lines) step.form (lines_with context step.args (form_of task step.form).premises) (step_of First task context step))
      (Spells task (Row (rule.Step (length context.lines))) (step_of First task context step))
  step_text_piece level context step inside fits may =
      let same : may.0 ≡ form_of task step.form = form_same task step.form may.0 may.1 in
      let there : slice_get task.forms step.form ≡ Some (form_of task step.form) = may.1 ∙ ap (λ (f : Form). Some f) same in
      let below : step.form < length task.forms = slice_get_within task.forms step.form (form_of task step.form) there in
      let few = right.few_forms in
      let stand = subst (λ (f : Form). AllByRecursion (λ m. m < length context.lines) (lines_with context step.args f.premises)) same
      (facts_below context step.args (may.0).premises may.2.premises) in
      let given : Line.Line = line_by task context step in
      let line_fits : LineFits task.tables given = given_fits task right (form_of task step.form) step.form
      (step.args ++ counted context.elements (form_of task step.form).existentials) there in
      let after = step_inside task right context step inside may in
      let known = each_back (LineIsBelow (after_step_of task context step).elements) context.lines (given ∷ []) after.is.lines in
      step_piece task level (length context.lines) step.form (lines_with context step.args (form_of task step.form).premises) (map (printed task) step.args)
      (map (printed task) (fresh_of task context step)) (shown_line task.tables (names_in task (after_step_of task context step)) given) fits below (omega arith)
      stand (elements_named task named step.args) (elements_named task named (fresh_of task context step))
      (line_shown_named (after_step_of task context step).elements given line_fits known.0)
      (line_proper task.tables (names_in task (after_step_of task context step)) given line_fits)

  -- steps in front of an end
  pub steps_piece : (level : ℕ) (steps : List Mp) (P : Context → Type 0) (further : ℕ) (end : Context → Text) (ended : Context → EndText) (context : Context) →
      IsInside task context → length context.lines + (length steps + further) ≤ most_number → StepsThen (proof_task task) steps P context →
      ((after : Context) → IsInside task after → length after.lines + further ≤ most_number → P after →
      Gives Any (end after) (Spells task (Row (rule.Finish (length after.lines))) (ended after))) →
      Gives Any (steps_text level task steps context ++ end (after_steps task steps context))
      (Spells task (Row (rule.Body (length context.lines))) (body_with (steps_of First task steps context) (ended (after_steps task steps context))))
  steps_piece level [] P further end ended context inside room h last =
      end_alone task (length context.lines) (ended context) (end context) (last context inside (omega arith) h)
  steps_piece level (step ∷ steps) P further end ended context inside room h last =
      let may : MayStep task context step = (h.0, h.1, h.2) in
      let next : Context = after_step_of task context step in
      let longer : length next.lines ≡ length context.lines + 1 = length-append context.lines (line_by task context step ∷ []) in
      let rest : StepsThen (proof_task task) steps P next
      = subst (λ (f : Form). StepsThen (proof_task task) steps P (after_mp context f step.args)) (form_same task step.form h.0 h.1) h.3 in
      as_text (sym (append_assoc
      (step_text level (length context.lines) step.form (lines_with context step.args (form_of task step.form).premises) (step_of First task context step))
      (steps_text level task steps next) (end (after_steps task steps next))))
      (step_first task (length context.lines) (step_of First task context step)
      (body_with (steps_of First task steps next) (ended (after_steps task steps next)))
      (step_text level (length context.lines) step.form (lines_with context step.args (form_of task step.form).premises) (step_of First task context step))
      (steps_text level task steps next ++ end (after_steps task steps next))
      (step_text_piece level context step inside (omega arith) may)
      (body_counted task (length next.lines) (length context.lines + 1) (body_with (steps_of First task steps next) (ended (after_steps task steps next)))
      (steps_text level task steps next ++ end (after_steps task steps next)) longer
      (steps_piece level steps P further end ended next (step_inside task right context step inside may) (omega arith) rest last)))

  -- a case, whose end is a piece wherever its steps lead
  case_text_piece : (level : ℕ) (steps : List Mp) (end : tree.End) (facts : List Atom) (context : Context) → IsInside task (with_facts context facts) →
      length context.lines + 1 + (length steps + end_size end) ≤ most_number →
      StepsThen (proof_task task) steps (Closes (proof_task task) end) (with_facts context facts) →
      ((after : Context) → IsInside task after → length after.lines + end_size end ≤ most_number → Closes (proof_task task) end after →
      Gives Any (end_text level task end after) (Spells task (Row (rule.Finish (length after.lines))) (end_of First task end after))) →
      Gives Any (case_line level (length context.lines) (named_facts task.tables (names_in task context) facts) ++
      steps_text level task steps (with_facts context facts) ++ end_text level task end (after_steps task steps (with_facts context facts)))
      (Spells task (Row (rule.Case (length context.lines))) (case_with (named_facts task.tables (names_in task context) facts)
      (body_with (steps_of First task steps (with_facts context facts)) (end_of First task end (after_steps task steps (with_facts context facts))))))
  case_text_piece level steps end facts context inside room h last =
      let inner : Context = with_facts context facts in
      let longer : length inner.lines ≡ length context.lines + 1 = length-append context.lines (line.Facts facts ∷ []) in
      let fit = case_fits task context facts inside in
      let body : BodyText = body_with (steps_of First task steps inner) (end_of First task end (after_steps task steps inner)) in
      let shown : named_facts task.tables (names_in task context) facts ≡ printed_facts task facts
      = facts_shown task context.elements facts (case_below task context facts inside) in
      case_piece task level (length context.lines) (named_facts task.tables (names_in task context) facts) body (steps_text level task steps inner)
      (end_text level task end (after_steps task steps inner)) (omega arith) (subst AtomsAreNamed (sym shown) (facts_named task named facts fit))
      (facts_proper task.tables (names_in task context) facts fit)
      (body_counted task (length inner.lines) (length context.lines + 1) body
      (steps_text level task steps inner ++ end_text level task end (after_steps task steps inner)) longer
      (steps_piece level steps (Closes (proof_task task) end) (end_size end) (end_text level task end) (end_of First task end) inner inside (omega arith) h last))

  -- the text of a case, and the case
  abbrev case_text : ℕ → List Mp → tree.End → List Atom → Context → Text
  case_text level steps end facts context =
      case_line level (length context.lines) (named_facts task.tables (names_in task context) facts) ++
      steps_text level task steps (with_facts context facts) ++ end_text level task end (after_steps task steps (with_facts context facts))

  abbrev case_told : List Mp → tree.End → List Atom → Context → CaseText
  case_told steps end facts context =
      case_with (named_facts task.tables (names_in task context) facts)
      (body_with (steps_of First task steps (with_facts context facts)) (end_of First task end (after_steps task steps (with_facts context facts))))

  -- a split of a first case and further ones
  first_and_more : {n : _} (level number : ℕ) (steps : List Mp) (end : tree.End) (rest : Row_of-Body n) (facts : List Atom) (more lists : List (List Atom))
      (context : Context) → lists ≡ facts ∷ more → number < length context.lines → length context.lines ≤ most_number →
      Gives Any (case_text (level + 1) steps end facts context) (Spells task (Row (rule.Case (length context.lines))) (case_told steps end facts context)) →
      Gives Any (led (next_text level) (next_text level) (case_texts (level + 1) task rest more context))
      (Spells task (Row (rule.MoreCases (length context.lines))) (cases_of First task rest more context)) →
      Gives Any (split_text level number ++ joined_texts (next_text level) (case_texts (level + 1) task (more_of-Body steps end rest) lists context) ++ qed_text (level + 1))
      (Spells task (Row (rule.Finish (length context.lines))) (Cs number (cases_of First task (more_of-Body steps end rest) lists context)))
  first_and_more level number steps end rest facts more lists context is below fits one others =
      let first : Text = case_text (level + 1) steps end facts context in
      let texts : List Text = case_texts (level + 1) task rest more context in
      subst (λ (ls : List (List Atom)). Gives Any
      (split_text level number ++ joined_texts (next_text level) (case_texts (level + 1) task (more_of-Body steps end rest) ls context) ++ qed_text (level + 1))
      (Spells task (Row (rule.Finish (length context.lines))) (Cs number (cases_of First task (more_of-Body steps end rest) ls context)))) (sym is)
      (as_text (ap (λ (t : Text). split_text level number ++ t ++ qed_text (level + 1)) (sym (joined_led (next_text level) (first ∷ texts))))
      (split_piece task level (length context.lines) number (case_told steps end facts context) (cases_of First task rest more context) first
      (led (next_text level) (next_text level) texts) fits below one others))

  -- a further case and those behind it
  next_and_more : {n : _} (level : ℕ) (steps : List Mp) (end : tree.End) (rest : Row_of-Body n) (facts : List Atom) (more lists : List (List Atom))
      (context : Context) → lists ≡ facts ∷ more →
      Gives Any (case_text (level + 1) steps end facts context) (Spells task (Row (rule.Case (length context.lines))) (case_told steps end facts context)) →
      Gives Any (led (next_text level) (next_text level) (case_texts (level + 1) task rest more context))
      (Spells task (Row (rule.MoreCases (length context.lines))) (cases_of First task rest more context)) →
      Gives Any (led (next_text level) (next_text level) (case_texts (level + 1) task (more_of-Body steps end rest) lists context))
      (Spells task (Row (rule.MoreCases (length context.lines))) (cases_of First task (more_of-Body steps end rest) lists context))
  next_and_more level steps end rest facts more lists context is one others =
      subst (λ (ls : List (List Atom)). Gives Any
      (led (next_text level) (next_text level) (case_texts (level + 1) task (more_of-Body steps end rest) ls context))
      (Spells task (Row (rule.MoreCases (length context.lines))) (cases_of First task (more_of-Body steps end rest) ls context))) (sym is)
      (next_case_piece task level (length context.lines) (case_told steps end facts context) (cases_of First task rest more context)
      (case_text (level + 1) steps end facts context) (led (next_text level) (next_text level) (case_texts (level + 1) task rest more context)) one others)

  mutual
    -- an end
    pub end_piece : (level : ℕ) (end : tree.End) (context : Context) → IsInside task context → length context.lines + end_size end ≤ most_number → EndFits end →
        Closes (proof_task task) end context →
        Gives Any (end_text level task end context) (Spells task (Row (rule.Finish (length context.lines))) (end_of First task end context))
    end_piece level (tree.As disjunct args) context inside room fits h =
        let same : disjunct_of task disjunct ≡ h.atoms = ap (λ (o : Option (List Atom)). unwrap_or o []) h.disjunct_is in
        let xs : List ℕ = parameters (proof_task task) ++ args in
        as_piece task level (length context.lines) (lines_with context xs (disjunct_of task disjunct)) disjunct (map (printed task) args) (omega arith)
        (subst (λ (atoms : List Atom). AllByRecursion (λ m. m < length context.lines) (lines_with context xs atoms)) (sym same)
        (facts_below context xs h.atoms h.stand)) fits (elements_named task named args)
    end_piece level tree.Efq context inside room fits h =
        efq_piece task level (length context.lines) (first_falsum context.lines) (omega arith) (falsum_below context h)
    end_piece level (tree.Cs' number s row) context inside room fits h =
        let lists : lists_in (slice_get context.lines number) ≡ h.0 = ap lists_in h.1 in
        subst (λ (ls : List (List Atom)). Gives Any
        (split_text level number ++ joined_texts (next_text level) (case_texts (level + 1) task row ls context) ++ qed_text (level + 1))
        (Spells task (Row (rule.Finish (length context.lines))) (Cs number (cases_of First task row ls context)))) (sym lists)
        (split_cases level number row h.0 context (slice_get_within context.lines number (line.Cases h.0) h.1) (omega arith) fits
        (lists_fit task context number h.0 inside h.1).0 (cases_inside task context number h.0 inside h.1) h.2)

    -- a split with these branches
    split_cases : {n : _} (level number : ℕ) (row : Row_of-Body n) (lists : List (List Atom)) (context : Context) → number < length context.lines →
        length context.lines + 1 + sizes row ≤ most_number → BranchesFit row → HasTwo lists →
        AllByRecursion (λ facts. IsInside task (with_facts context facts)) lists → EachProves (proof_task task) row lists context →
        Gives Any (split_text level number ++ joined_texts (next_text level) (case_texts (level + 1) task row lists context) ++ qed_text (level + 1))
        (Spells task (Row (rule.Finish (length context.lines))) (Cs number (cases_of First task row lists context)))
    split_cases level number end_of-Body lists context below room fits two inside h = absurd (subst HasTwo h two)
    split_cases level number (more_of-Body steps end rest) lists context below room fits two inside h =
        let each = subst (AllByRecursion (λ facts. IsInside task (with_facts context facts))) h.2 inside in
        first_and_more level number steps end rest h.0 h.1 lists context h.2 below (omega arith)
        (case_text_piece (level + 1) steps end h.0 context each.0 (omega arith) h.3
        (λ after inner few closes. end_piece (level + 1) end after inner few fits.0 closes))
        (more_cases level rest h.1 context (omega arith) fits.1 each.1 h.4)

    -- further branches
    more_cases : {n : _} (level : ℕ) (row : Row_of-Body n) (lists : List (List Atom)) (context : Context) →
        length context.lines + 1 + sizes row ≤ most_number → BranchesFit row →
        AllByRecursion (λ facts. IsInside task (with_facts context facts)) lists → EachProves (proof_task task) row lists context →
        Gives Any (led (next_text level) (next_text level) (case_texts (level + 1) task row lists context))
        (Spells task (Row (rule.MoreCases (length context.lines))) (cases_of First task row lists context))
    more_cases level end_of-Body lists context room fits inside h =
        rule_piece task (rule.MoreCases (length context.lines)) (inl tt) tt [] (λ lexed values mean. refl) (none_piece task)
    more_cases level (more_of-Body steps end rest) lists context room fits inside h =
        let each = subst (AllByRecursion (λ facts. IsInside task (with_facts context facts))) h.2 inside in
        next_and_more level steps end rest h.0 h.1 lists context h.2
        (case_text_piece (level + 1) steps end h.0 context each.0 (omega arith) h.3
        (λ after inner few closes. end_piece (level + 1) end after inner few fits.0 closes))
        (more_cases level rest h.1 context (omega arith) fits.1 each.1 h.4)
