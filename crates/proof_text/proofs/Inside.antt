-- Contexts inside a proof of a task: the first one is one, and each rule leads from one to one.
use Rattle.std.proofs.Common.{◌≡◌, ℕ, List, [], ◌∷◌, ◌++◌, map, length, slice_get, Some, refl, ◌∙◌, subst}
use Rattle.std.proofs.lemmas.List.{length-map}
use Rattle.std.specs.List.{AllByRecursion}
use Rattle.text_core.specs.Numbered.{Tables}
use Rattle.text_core.proofs.Laws.{each_map, each_append, each_back, each_both, each_get, each_mapped}
use Rattle.logic_core.specs.declared.form.Slot.{Slot}
use Rattle.logic_core.specs.declared.form.Slot.TheVariants.{Variable, Constant}
use Rattle.logic_core.specs.declared.form.Atom.{Atom}
use Rattle.logic_core.specs.declared.form.Form.{Form}
use Rattle.vernacular_tree.specs.Contexts.{counted, parameters, slot_at, atom_at, line_of, start_context, with_facts, after_mp}
use Rattle.vernacular_tree.specs.Carries.{HasElements}
use Rattle.vernacular_tree.specs.Rules.{IsInstance, StepsThen}
use Rattle.vernacular_tree.specs.Tasks.{IsTask}
use Rattle.vernacular_tree.specs.Witnessed.{LineIsBelow}
use Rattle.vernacular_tree.specs.declared.context.Line.TheVariants as line
use Rattle.vernacular_tree.specs.declared.context.Context.{Context}
use Rattle.vernacular_tree.specs.declared.tree.Mp.{Mp}
use Rattle.vernacular_tree.proofs.Laws.{start_is_context, after_is_context}
use Rattle.coherent_form.specs.Fitting.{AtomFits, FormFits}
use Rattle.coherent_form.specs.Kept.{IsRight}
use Rattle.coherent_form.specs.Tasks.{CitedTask, proof_task}
use Rattle.proof_text.specs.Showing.{IsElement, FactFits, LineFits, IsInside, MayStep, MaySteps}
use Rattle.proof_text.specs.ScriptOf.{after_step_of, after_steps}
use Rattle.proof_text.proofs.ScriptStands.{form_same}

-- arguments of a form's atom at elements are elements
slots_are : (xs : List ℕ) (ss : List Slot) → AllByRecursion IsElement (map (slot_at xs) ss)
slots_are xs [] = tt
slots_are xs (Variable i ∷ ss) = (tt, slots_are xs ss)
slots_are xs (Constant c ∷ ss) = (tt, slots_are xs ss)

-- an atom of a form at elements fits
atom_at_fits : (tables : Tables) (xs : List ℕ) (atom : Atom) → AtomFits tables atom → FactFits tables (atom_at xs atom)
atom_at_fits tables xs atom h = record {
  fits = record { there = h.there; arity = length-map atom.args (slot_at xs) ∙ h.arity };
  elements = slots_are xs atom.args;
}

-- atoms of a form at elements fit
pub facts_at_fit : (tables : Tables) (xs : List ℕ) (atoms : List Atom) → AllByRecursion (AtomFits tables) atoms
    → AllByRecursion (FactFits tables) (map (atom_at xs) atoms)
facts_at_fit tables xs atoms h = each_mapped (FactFits tables) (atom_at xs) (λ atom fits also. atom_at_fits tables xs atom fits) atoms h h

-- disjuncts of a form at elements fit
pub lists_at_fit : (tables : Tables) (xs : List ℕ) (lists : List (List Atom)) → AllByRecursion (AllByRecursion (AtomFits tables)) lists
    → AllByRecursion (AllByRecursion (FactFits tables)) (map (map (atom_at xs)) lists)
lists_at_fit tables xs lists h =
    each_mapped (AllByRecursion (FactFits tables)) (map (atom_at xs)) (λ atoms fit also. facts_at_fit tables xs atoms fit) lists h h

-- the line of lists that fit fits
pub line_fits : (tables : Tables) (lists : List (List Atom)) → AllByRecursion (AllByRecursion (FactFits tables)) lists → LineFits tables (line_of lists)
line_fits tables [] h = tt
line_fits tables (facts ∷ []) h = h.0
line_fits tables (facts ∷ more ∷ rest) h = (tt, h)

module _ (task : CitedTask) (right : IsRight task) where
  -- the task is one that a problem can give
  pub is_task : IsTask (length task.tables.constants) (proof_task task)
  is_task = record {
    forms = each_map (λ form fits. fits.formed) task.forms right.forms;
    goal = right.goal.formed;
    start = refl;
  }

  -- the first context of a proof is inside it
  pub start_inside : IsInside task (start_context (proof_task task))
  start_inside = record {
    is = start_is_context (length task.tables.constants) (proof_task task) is_task;
    lines = (facts_at_fit task.tables (parameters (proof_task task)) task.goal.premises right.goal.premises, tt);
  }

  -- the line that a form of the task gives fits
  pub given_fits : (form : Form) (number : ℕ) (xs : List ℕ) → slice_get task.forms number ≡ Some form
      → LineFits task.tables (line_of (map (map (atom_at xs)) form.disjuncts))
  given_fits form number xs is =
      let fits = each_get (FormFits task.tables) task.forms number form right.forms is in
      line_fits task.tables (map (map (atom_at xs)) form.disjuncts) (lists_at_fit task.tables xs form.disjuncts fits.disjuncts)

  -- the context after a form is applied inside a proof is inside it
  pub after_inside : (context : Context) (form : Form) (number : ℕ) (args : List ℕ) → IsInside task context → slice_get task.forms number ≡ Some form
      → IsInstance context form args → IsInside task (after_mp context form args)
  after_inside context form number args h is inst =
      let fits = each_get (FormFits task.tables) task.forms number form right.forms is in
      let xs : List ℕ = args ++ counted context.elements form.existentials in record {
        is = after_is_context (length task.tables.constants) (proof_task task) is_task context form args h.is fits.formed inst;
        lines = each_append (LineFits task.tables) context.lines (line_of (map (map (atom_at xs)) form.disjuncts) ∷ []) h.lines
            (given_fits form number xs is, tt);
      }

  -- the context after a step inside a proof is inside it
  pub step_inside : (context : Context) (step : Mp) → IsInside task context → MayStep task context step → IsInside task (after_step_of task context step)
  step_inside context step h may =
      subst (λ (f : Form). IsInside task (after_mp context f step.args)) (form_same task step.form may.0 may.1)
      (after_inside context may.0 step.form step.args h may.1 may.2)

-- the lists of a line of cases inside a proof fit
pub lists_fit : (task : CitedTask) (context : Context) (number : ℕ) (lists : List (List Atom)) → IsInside task context
    → slice_get context.lines number ≡ Some (line.Cases lists) → LineFits task.tables (line.Cases lists)
lists_fit task context number lists h is = each_get (LineFits task.tables) context.lines number (line.Cases lists) h.lines is

-- a context inside a proof with facts that fit is inside it
facts_inside : (task : CitedTask) (context : Context) (facts : List Atom) → IsInside task context → AllByRecursion (HasElements context.elements) facts
    → AllByRecursion (FactFits task.tables) facts → IsInside task (with_facts context facts)
facts_inside task context facts h below fits = record {
  is = record {
    start = h.is.start;
    lines = each_append (LineIsBelow context.elements) context.lines (line.Facts facts ∷ []) h.is.lines (below, tt);
  };
  lines = each_append (LineFits task.tables) context.lines (line.Facts facts ∷ []) h.lines (fits, tt);
}

-- the contexts of the cases of a line inside a proof are inside it
pub cases_inside : (task : CitedTask) (context : Context) (number : ℕ) (lists : List (List Atom)) → IsInside task context
    → slice_get context.lines number ≡ Some (line.Cases lists) → AllByRecursion (λ facts. IsInside task (with_facts context facts)) lists
cases_inside task context number lists h is =
    each_both {R = λ facts. IsInside task (with_facts context facts)} (λ facts below fits. facts_inside task context facts h below fits) lists
    (let below : LineIsBelow context.elements (line.Cases lists) = each_get (LineIsBelow context.elements) context.lines number (line.Cases lists) h.is.lines is in below)
    (lists_fit task context number lists h is).1

-- the facts of a case inside a proof fit
pub case_fits : (task : CitedTask) (context : Context) (facts : List Atom) → IsInside task (with_facts context facts) → AllByRecursion (FactFits task.tables) facts
case_fits task context facts h = (each_back (LineFits task.tables) context.lines (line.Facts facts ∷ []) h.lines).0

-- the facts of a case inside a proof have elements of the context
pub case_below : (task : CitedTask) (context : Context) (facts : List Atom) → IsInside task (with_facts context facts)
    → AllByRecursion (HasElements context.elements) facts
case_below task context facts h = (each_back (LineIsBelow context.elements) context.lines (line.Facts facts ∷ []) h.is.lines).0

module _ (task : CitedTask) where
  -- what holds after steps that lead there
  pub steps_reach : (steps : List Mp) (P : Context → Type 0) (context : Context) → StepsThen (proof_task task) steps P context
      → P (after_steps task steps context)
  steps_reach [] P context h = h
  steps_reach (step ∷ steps) P context h =
      steps_reach steps P (after_step_of task context step)
      (subst (λ (f : Form). StepsThen (proof_task task) steps P (after_mp context f step.args)) (form_same task step.form h.0 h.1) h.3)

  -- steps that lead somewhere may be taken
  pub steps_may : (steps : List Mp) (P : Context → Type 0) (context : Context) → StepsThen (proof_task task) steps P context → MaySteps task steps context
  steps_may [] P context h = tt
  steps_may (step ∷ steps) P context h = (h.0, h.1, h.2, steps_may steps P (after_mp context h.0 step.args) h.3)

  -- the first step may be taken
  pub step_may : (step : Mp) (steps : List Mp) (context : Context) → MaySteps task (step ∷ steps) context → MayStep task context step
  step_may step steps context h = (h.0, h.1, h.2)

  -- the others may be taken behind it
  pub next_may : (step : Mp) (steps : List Mp) (context : Context) → MaySteps task (step ∷ steps) context → MaySteps task steps (after_step_of task context step)
  next_may step steps context h =
      subst (λ (f : Form). MaySteps task steps (after_mp context f step.args)) (form_same task step.form h.0 h.1) h.3

  -- the context after steps inside a proof is inside it
  pub steps_inside : IsRight task → (steps : List Mp) (context : Context) → IsInside task context → MaySteps task steps context
      → IsInside task (after_steps task steps context)
  steps_inside right [] context h may = h
  steps_inside right (step ∷ steps) context h may =
      steps_inside right steps (after_step_of task context step) (step_inside task right context step h (step_may step steps context may))
      (next_may step steps context may)
