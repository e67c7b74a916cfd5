-- The English text of a proof of a task: what is given, and along each branch a sentence for each
-- step, case and end, with the printed names of all elements.
use Rattle.std.specs.Prelude.{ℕ, suc, ◌-◌, List, [], ◌∷◌, ◌++◌, map, slice_get, unwrap_or}
use Rattle.text_core.specs.Names.{Text}
use Rattle.logic_core.specs.declared.form.Atom.{Atom}
use Rattle.vernacular_tree.specs.Contexts.{parameters, atom_at, start_context, with_facts}
use Rattle.vernacular_tree.specs.declared.context.Line.TheVariants.{Cases}
use Rattle.vernacular_tree.specs.declared.context.Context.{Context}
use Rattle.vernacular_tree.specs.declared.tree.Mp.{Mp}
use Rattle.vernacular_tree.specs.declared.tree.Body.{Body}
use Rattle.vernacular_tree.specs.declared.tree.End.{End, As, Efq, Cs', Row_of-Body, end_of-Body, more_of-Body}
use Rattle.coherent_form.specs.Tasks.{CitedTask, proof_task}
use Rattle.proof_text.specs.Printing.{printed, printed_facts, printed_line}
use Rattle.proof_text.specs.ScriptOf.{cite_of, fresh_of, line_by, after_step_of, after_steps, lists_in, first_list, other_lists}
use Rattle.english_text.specs.Sentences.{given_text, supposed_text, step_text, split_text, case_text, answer_text, contradiction_text}

module _ (task : CitedTask) where
  -- a step, and steps in order
  abbrev pub mp_text : ℕ → Context → Mp → Text
  mp_text level context step =
      step_text level (cite_of task step.form) (map (printed task) step.args)
      (printed_line task (line_by task context step))
      (map (printed task) (fresh_of task context step))

  abbrev pub steps_text : ℕ → List Mp → Context → Text
  steps_text level [] context = []
  steps_text level (step ∷ steps) context =
      mp_text level context step ++ steps_text level steps (after_step_of task context step)

  -- the atoms of a disjunct of the goal, counted from 1, at the parameters and these elements
  abbrev pub answer_facts : ℕ → List ℕ → List Atom
  answer_facts disjunct args = map (atom_at (parameters (proof_task task) ++ args))
      (unwrap_or (slice_get task.goal.disjuncts (disjunct - 1)) [])

  abbrev mutual
    -- an end
    pub end_text : ℕ → End → Context → Text
    end_text level (As disjunct args) context =
        answer_text level (printed_facts task (answer_facts disjunct args))
    end_text level Efq context = contradiction_text level
    end_text level (Cs' line _ branches) context =
        let lists = lists_in (slice_get context.lines line) in
        split_text level (printed_line task (Cases lists)) ++
        cases_text level branches lists context

    -- a case for each branch, with its body one level deeper
    pub cases_text : {n : _} → ℕ → Row_of-Body n → List (List Atom) → Context → Text
    cases_text level end_of-Body lists context = []
    cases_text level (more_of-Body steps end rest) lists context =
        let inner = with_facts context (first_list lists) in
        case_text level (printed_facts task (first_list lists)) ++
        steps_text (suc level) steps inner ++
        end_text (suc level) end (after_steps task steps inner) ++
        cases_text level rest (other_lists lists) context

  -- a body
  abbrev pub body_text : ℕ → Body → Context → Text
  body_text level body context = steps_text level body.steps context ++
      end_text level body.end (after_steps task body.steps context)

  -- the text
  abbrev pub english_text : Body → Text
  english_text body = let elements = parameters (proof_task task) in
      given_text (map (printed task) elements) ++
      supposed_text (printed_facts task (map (atom_at elements) task.goal.premises)) ++
      body_text 0 body (start_context (proof_task task))
