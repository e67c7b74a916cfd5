-- What a planner is asked, and what its answer says.
use Rattle.std.proofs.Common.{◌≡◌, ℕ, ◌+◌, ◌≤◌, List, [], ◌∷◌, ◌++◌, map, length, refl, ap, sym, ◌∙◌, subst, arith}
use Rattle.std.specs.List.{AllByRecursion}
use Rattle.text_core.proofs.Laws.{each_map}
use Rattle.logic_core.specs.Forms.{AtomIsBelow}
use Rattle.logic_core.specs.declared.form.Atom.{Atom}
use Rattle.logic_core.specs.declared.form.Form.{Form}
use Rattle.vernacular_tree.specs.Contexts.{counted, parameters, atom_at}
use Rattle.vernacular_tree.specs.Tasks.{IsTask}
use Rattle.vernacular_tree.specs.Witnessed.{IsContext, LineIsBelow}
use Rattle.vernacular_tree.specs.declared.context.Line.{Line}
use Rattle.vernacular_tree.specs.declared.context.Line.TheVariants.{Facts, Cases, Falsum}
use Rattle.vernacular_tree.specs.declared.context.Context.{Context}
use Rattle.coherent_form.specs.Kept.{IsRight}
use Rattle.coherent_form.specs.Tasks.{CitedTask, proof_task, start_elements}
use Rattle.kept_context.specs.Lent.{IsLine, IsContextOf}
use Rattle.proof_plans.specs.Drafts.{Both}
use Rattle.proof_plans.specs.Scenes.{IsAnswerForm}
use Rattle.trail_search.specs.Answers.{atom_with, answer_of, AreAnswers}
use Rattle.trail_search.proofs.Disjuncts.{atom_both, atoms_below, parameters_below, parameters_length}

-- a task is one that a problem can give
pub task_is : (task : CitedTask) → IsRight task → IsTask (length task.tables.constants) (proof_task task)
task_is task right = record {
  forms = each_map (λ form fits. fits.formed) task.forms right.forms;
  goal = right.goal.formed;
  start = refl;
}

-- a context of the task speaks of its own elements
pub context_is : (task : CitedTask) (context : Context) → IsContextOf task context → IsContext (proof_task task) context
context_is task context is = record {
  start = is.start;
  lines = each_map line context.lines is.lines;
}
  where
    line : (l : Line) → IsLine task.tables context.elements l → LineIsBelow context.elements l
    line (Facts facts) h = each_map (λ fact f. f.elements_known) facts h.each
    line (Cases lists) h = each_map (λ facts are. each_map (λ fact f. f.elements_known) facts are.each) lists h.1
    line Falsum h = tt

module _ (task : CitedTask) (right : IsRight task) where
  -- the form of a disjunct
  answer_form : (atoms : List Atom) → AllByRecursion (AtomIsBelow (task.goal.universals + task.goal.existentials) (length task.tables.constants)) atoms
      → IsAnswerForm (proof_task task) (answer_of task atoms) atoms
  answer_form atoms below = record {
    variables_are = refl;
    constants = start_elements task;
    below = atoms_below (parameters (proof_task task)) task.goal.existentials (length task.tables.constants) (start_elements task) (parameters_below task (start_elements task) (omega arith)) (omega arith) atoms
        (subst (λ (n : ℕ). AllByRecursion (AtomIsBelow (n + task.goal.existentials) (length task.tables.constants)) atoms) (sym (parameters_length task)) below);
    same = λ base. all_same (counted base task.goal.existentials) atoms;
  }
    where
      all_same : (args : List ℕ) (atoms : List Atom) → map (atom_at args) (map (atom_with (parameters (proof_task task))) atoms) ≡ map (atom_at (parameters (proof_task task) ++ args)) atoms
      all_same args [] = refl
      all_same args (atom ∷ atoms) = let first = atom_both (parameters (proof_task task)) args atom in let rest = all_same args atoms in cc

  -- the forms of the disjuncts
  pub answers_are : (forms : List Form) → AreAnswers task forms → Both (IsAnswerForm (proof_task task)) forms task.goal.disjuncts
  answers_are forms are = subst (λ (fs : List Form). Both (IsAnswerForm (proof_task task)) fs task.goal.disjuncts) (sym are) (all task.goal.disjuncts right.goal.formed.disjuncts)
    where
      all : (lists : List (List Atom)) → AllByRecursion (AllByRecursion (AtomIsBelow (task.goal.universals + task.goal.existentials) (length task.tables.constants))) lists
          → Both (IsAnswerForm (proof_task task)) (map (answer_of task) lists) lists
      all [] below = tt
      all (atoms ∷ lists) below = (answer_form atoms below.0, all lists below.1)
