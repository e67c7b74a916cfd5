-- How code writes a step, and steps one after another.
use Rattle.std.proofs.Common.{◌≡◌, ℕ, zero, suc, ◌+◌, ◌<◌, List, [], ◌∷◌, ◌++◌, map, length, drop, get_or, slice_get, Option, Some, ap, sym, ◌∙◌, subst, arith, add-one, append_assoc, unwrap_or}
use Rattle.std.proofs.lemmas.Option.{get_or_from_slice_get}
use Rattle.text_core.specs.Names.{Text}
use Rattle.text_core.proofs.Laws.{each_back}
use Rattle.logic_core.specs.declared.form.Form.{Form}
use Rattle.vernacular_tree.specs.Contexts.{counted, atom_at, line_of}
use Rattle.vernacular_tree.specs.Witnessed.{LineIsBelow}
use Rattle.vernacular_tree.specs.declared.context.Line as Line
use Rattle.vernacular_tree.specs.declared.context.Context.{Context}
use Rattle.vernacular_tree.specs.declared.tree.Mp.{Mp}
use Rattle.coherent_form.specs.Kept.{IsRight}
use Rattle.coherent_form.specs.Tasks.{CitedTask}
use Rattle.coherent_form.specs.declared.citation.Citation.{Citation}
use Rattle.coherent_form.specs.declared.citation.Citation.TheVariants.{Refl}
use Rattle.proof_text.specs.declared.body.ArgsText as ArgsText
use Rattle.proof_text.specs.declared.body.Shown as Shown
use Rattle.proof_text.specs.declared.body.MpText.{MpText}
use Rattle.proof_text.specs.declared.part.Edition as Edition
use Rattle.proof_text.specs.Branches.{shown_line, given_line}
use Rattle.proof_text.specs.ScriptOf.{names_in, form_of, cite_of, variables_of, args_of, fresh_of, line_by, after_step_of, step_of, steps_of, after_steps}
use Rattle.proof_text.specs.Showing.{LineFits, IsInside, MayStep, MaySteps}
use Rattle.proof_text.specs.Printing.{printed, printed_line}
use Rattle.proof_text.proofs.Inside.{given_fits, step_inside, next_may}
use Rattle.proof_text.proofs.PrintedLines.{line_shown}
use Rattle.proof_text.proofs.ScriptStands.{form_same}

-- the form that is read by a step's number is the one that the task has
pub form_read : (task : CitedTask) (seen : List Form) (number : ℕ) (form there : Form) → seen ≡ task.forms → form ≡ get_or seen number form
    → slice_get task.forms number ≡ Some there → form ≡ form_of task number
form_read task seen number form there same is at =
    let read : get_or seen number form ≡ there = subst (λ (fs : List Form). get_or fs number form ≡ there) (sym same)
    (get_or_from_slice_get task.forms number there form at) in
    is ∙ read ∙ form_same task number there at

-- the citation with a number is the one that the task has
pub cite_same : (task : CitedTask) (number : ℕ) (cite : Citation) → slice_get task.citations number ≡ Some cite → cite ≡ cite_of task number
cite_same task number cite is = sym (ap (λ (c : Option Citation). unwrap_or c Refl) is)

module _ (task : CitedTask) (context : Context) (step : Mp) where
  -- the line of a form that was read
  pub line_given : (form : Form) (args fresh : List ℕ) (line : Line.Line) → form ≡ form_of task step.form → args ≡ step.args
      → fresh ≡ counted context.elements form.existentials → line ≡ line_of (map (map (atom_at (args ++ fresh))) form.disjuncts)
      → line ≡ given_line context (form_of task step.form) step.args
  line_given form args fresh line form_is args_are fresh_are is =
      let new : fresh ≡ counted context.elements (form_of task step.form).existentials
      = fresh_are ∙ ap (λ (f : Form). counted context.elements f.existentials) form_is in
      is ∙ (λ i. line_of (map (map (atom_at (args_are i ++ new i))) (form_is i).disjuncts))

  module _ (right : IsRight task) (may : MayStep task context step) where
    -- the line fits
    pub line_given_fits : (line : Line.Line) → line ≡ given_line context (form_of task step.form) step.args → LineFits task.tables line
    line_given_fits line is =
        let there : slice_get task.forms step.form ≡ Some (form_of task step.form)
        = may.1 ∙ ap (λ (f : Form). Some f) (form_same task step.form may.0 may.1) in
        subst (LineFits task.tables) (sym is)
        (given_fits task right (form_of task step.form) step.form (step.args ++ counted context.elements (form_of task step.form).existentials) there)

    -- the line is shown with printed names
    line_given_shown : IsInside task context
        → printed_line task (line_by task context step) ≡ shown_line task.tables (names_in task (after_step_of task context step)) (line_by task context step)
    line_given_shown inside =
        let after = step_inside task right context step inside may in
        let given : Line.Line = line_by task context step in
        let below = each_back (LineIsBelow (after_step_of task context step).elements) context.lines (given ∷ []) after.is.lines in
        sym (line_shown task (after_step_of task context step).elements given below.0)

    -- the parts of a step make the step
    pub step_written : IsInside task context → (e : Edition.Edition) (cite : Citation) (args : ArgsText.ArgsText) (names : List Text) (shown : Shown.Shown)
        → slice_get task.citations step.form ≡ Some cite → args ≡ args_of e task (variables_of task step.form) step.args
        → names ≡ map (printed task) (fresh_of task context step) → shown ≡ printed_line task (line_by task context step)
        → record { cite = cite; args = args; fresh = names; shown = Some shown } ≡ step_of e task context step
    step_written inside e cite args names shown cite_is args_are names_are shown_is =
        let cited = cite_same task step.form cite cite_is in
        let show = shown_is ∙ line_given_shown inside in
        λ i. record { cite = cited i; args = args_are i; fresh = names_are i; shown = Some (show i) }

  -- the context behind a step
  pub after_written : (elements : ℕ) (lines : List Line.Line) (form : Form) (line : Line.Line) → form ≡ form_of task step.form
      → elements ≡ context.elements + form.existentials → lines ≡ context.lines ++ line ∷ [] → line ≡ given_line context (form_of task step.form) step.args
      → record { elements = elements; lines = lines } ≡ after_step_of task context step
  after_written elements lines form line form_is elements_are lines_are is =
      let count = elements_are ∙ ap (λ (f : Form). context.elements + f.existentials) form_is in
      let all = lines_are ∙ ap (λ (l : Line.Line). context.lines ++ l ∷ []) is in
      λ i. record { elements = count i; lines = all i }

  -- the context behind a step is inside the proof
  pub after_written_inside : IsRight task → IsInside task context → MayStep task context step → (after : Context) → after ≡ after_step_of task context step
      → IsInside task after
  after_written_inside right inside may after is = subst (IsInside task) (sym is) (step_inside task right context step inside may)

-- what is left of a list from one of its members on
pub dropped : {X : Type 0} (xs : List X) (n : ℕ) (x : X) → n < length xs → x ≡ get_or xs n x → drop n xs ≡ x ∷ drop (n + 1) xs
dropped [] n x below is = absurd (omega arith)
dropped (y ∷ xs) zero x below is = ap (λ z. z ∷ xs) (sym is)
dropped (y ∷ xs) (suc n) x below is = rw add-one (let rest = dropped xs n x (omega arith) is in rw add-one at rest)

module _ (task : CitedTask) (step : Mp) (rest left : List Mp) (left_is : left ≡ step ∷ rest) (before after : Context)
    (after_is : after ≡ after_step_of task before step) where
  -- behind the first of the steps that are left the others may be taken
  pub others_may : MaySteps task left before → MaySteps task rest after
  others_may may = subst (MaySteps task rest) (sym after_is) (next_may task step rest before (subst (λ (ss : List Mp). MaySteps task ss before) left_is may))

  -- the first of the steps that are left is written behind those before
  pub next_written : (e : Edition.Edition) (texts longer all : List MpText) (text : MpText) → text ≡ step_of e task before step → longer ≡ texts ++ text ∷ []
      → texts ++ steps_of e task left before ≡ all → longer ++ steps_of e task rest after ≡ all
  next_written e texts longer all text text_is longer_is so_far =
      (λ i. longer_is i ++ steps_of e task rest (after_is i))
      ∙ append_assoc texts (text ∷ []) (steps_of e task rest (after_step_of task before step))
      ∙ (λ i. texts ++ text_is i ∷ steps_of e task rest (after_step_of task before step))
      ∙ ap (λ (ss : List Mp). texts ++ steps_of e task ss before) (sym left_is)
      ∙ so_far

  -- the context behind all steps stays the same
  pub next_after : (last : Context) → after_steps task left before ≡ last → after_steps task rest after ≡ last
  next_after last so_far = ap (after_steps task rest) after_is ∙ ap (λ (ss : List Mp). after_steps task ss before) (sym left_is) ∙ so_far
