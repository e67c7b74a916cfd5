-- The script that stands for a proof of a task, with the printed names of all elements and with all
-- lines and facts shown.
use Rattle.std.specs.Prelude.{ℕ, ◌+◌, List, [], ◌∷◌, map, slice_get, Some, Option, unwrap_or}
use Rattle.text_core.specs.Names.{Text}
use Rattle.logic_core.specs.declared.form.Atom.{Atom}
use Rattle.logic_core.specs.declared.form.Form.{Form}
use Rattle.vernacular_tree.specs.Contexts.{counted, parameters, start_context, with_facts, after_mp}
use Rattle.vernacular_tree.specs.declared.context.Line as Line
use Rattle.vernacular_tree.specs.declared.context.Line.TheVariants as line
use Rattle.vernacular_tree.specs.declared.context.Context.{Context}
use Rattle.vernacular_tree.specs.declared.tree.Mp.{Mp}
use Rattle.vernacular_tree.specs.declared.tree.Body.{Body}
use Rattle.vernacular_tree.specs.declared.tree.End as tree
use Rattle.vernacular_tree.specs.declared.tree.End.{Row_of-Body, end_of-Body, more_of-Body}
use Rattle.coherent_form.specs.Labels.{label_of}
use Rattle.coherent_form.specs.Tasks.{CitedTask, no_goal, proof_task}
use Rattle.coherent_form.specs.declared.citation.Citation.{Citation}
use Rattle.coherent_form.specs.declared.citation.Citation.TheVariants.{Refl}
use Rattle.proof_text.specs.declared.body.Binding.{Binding}
use Rattle.proof_text.specs.declared.body.ArgsText as ArgsText
use Rattle.proof_text.specs.declared.body.ArgsText.TheVariants.{Listed, Named}
use Rattle.proof_text.specs.declared.body.MpText.{MpText}
use Rattle.proof_text.specs.declared.body.CaseText.{CaseText}
use Rattle.proof_text.specs.declared.body.BodyText.{BodyText}
use Rattle.proof_text.specs.declared.body.EndText.{EndText, As, Efq, Cs}
use Rattle.proof_text.specs.declared.part.Edition as Edition
use Rattle.proof_text.specs.declared.part.Edition.TheVariants.{First, Second}
use Rattle.proof_text.specs.Branches.{named_facts, shown_line, given_line}
use Rattle.proof_text.specs.Printing.{printed}
use Rattle.proof_text.specs.Proper.{version_number}
use Rattle.proof_text.specs.Values.{Written}

-- the printed names of all elements of a context by number
abbrev pub names_in : CitedTask → Context → List Text
names_in task context = map (printed task) (counted 0 context.elements)

-- what a task tells of the form with a number
abbrev pub form_of : CitedTask → ℕ → Form
form_of task number = unwrap_or (slice_get task.forms number) no_goal

abbrev pub cite_of : CitedTask → ℕ → Citation
cite_of task number = unwrap_or (slice_get task.citations number) Refl

abbrev pub variables_of : CitedTask → ℕ → List Text
variables_of task number = unwrap_or (slice_get task.variables number) []

-- a binding for each variable from this number on
abbrev pub binds_of : CitedTask → List Text → ℕ → List ℕ → List Binding
binds_of task variables number [] = []
binds_of task variables number (element ∷ elements) =
    record { label = label_of variables number; value = printed task element }
    ∷ binds_of task variables (number + 1) elements

-- an instance: names in order, or a binding for each variable
abbrev pub args_of : Edition.Edition → CitedTask → List Text → List ℕ → ArgsText.ArgsText
args_of First task variables elements = Listed (map (printed task) elements)
args_of Second task variables elements = Named (binds_of task variables 0 elements)

-- the elements that a step adds, and the line that it gives
abbrev pub fresh_of : CitedTask → Context → Mp → List ℕ
fresh_of task context step = counted context.elements (form_of task step.form).existentials

abbrev pub line_by : CitedTask → Context → Mp → Line.Line
line_by task context step = given_line context (form_of task step.form) step.args

-- where the proof goes on after a step
abbrev pub after_step_of : CitedTask → Context → Mp → Context
after_step_of task context step = after_mp context (form_of task step.form) step.args

-- a step
abbrev pub step_of : Edition.Edition → CitedTask → Context → Mp → MpText
step_of e task context step = record {
  cite = cite_of task step.form;
  args = args_of e task (variables_of task step.form) step.args;
  fresh = map (printed task) (fresh_of task context step);
  shown = Some (shown_line task.tables (names_in task (after_step_of task context step))
      (line_by task context step));
}

-- steps in order, and the context after them
abbrev pub steps_of : Edition.Edition → CitedTask → List Mp → Context → List MpText
steps_of e task [] context = []
steps_of e task (step ∷ steps) context =
    step_of e task context step ∷ steps_of e task steps (after_step_of task context step)

abbrev pub after_steps : CitedTask → List Mp → Context → Context
after_steps task [] context = context
after_steps task (step ∷ steps) context =
    after_steps task steps (after_step_of task context step)

-- the lists of a line of cases
abbrev pub lists_in : Option Line.Line → List (List Atom)
lists_in (Some (line.Cases lists)) = lists
lists_in _ = []

-- the first list, and the others
abbrev pub first_list : List (List Atom) → List Atom
first_list [] = []
first_list (facts ∷ more) = facts

abbrev pub other_lists : List (List Atom) → List (List Atom)
other_lists [] = []
other_lists (facts ∷ more) = more

abbrev mutual
  -- an end
  pub end_of : Edition.Edition → CitedTask → tree.End → Context → EndText
  end_of e task (tree.As disjunct args) context = As disjunct (map (printed task) args)
  end_of e task tree.Efq context = Efq
  end_of e task (tree.Cs' line _ branches) context =
      Cs line (cases_of e task branches (lists_in (slice_get context.lines line)) context)

  -- a case for each branch, with its list of facts
  pub cases_of : {n : _} → Edition.Edition → CitedTask → Row_of-Body n → List (List Atom)
      → Context → List CaseText
  cases_of e task end_of-Body lists context = []
  cases_of e task (more_of-Body steps end rest) lists context =
      let inner = with_facts context (first_list lists) in record {
        shown = Some (named_facts task.tables (names_in task context) (first_list lists));
        body = record {
          steps = steps_of e task steps inner;
          end = end_of e task end (after_steps task steps inner);
        };
      }
      ∷ cases_of e task rest (other_lists lists) context

-- a body
abbrev pub body_of : Edition.Edition → CitedTask → Body → Context → BodyText
body_of e task body context = record {
  steps = steps_of e task body.steps context;
  end = end_of e task body.end (after_steps task body.steps context);
}

-- the script, of this version
abbrev pub script_of : Edition.Edition → CitedTask → Body → Written
script_of e task body = record {
  version = version_number e;
  take = map (printed task) (parameters (proof_task task));
  body = body_of e task body (start_context (proof_task task));
}
