-- How the parts of a body are written one after another.
use Rattle.std.specs.Prelude.{ℕ, zero, suc, ◌+◌, List, [], ◌∷◌, ◌++◌, map, codes, length}
use Rattle.text_core.specs.Names.{Text}
use Rattle.logic_core.specs.declared.form.Atom.{Atom}
use Rattle.vernacular_tree.specs.Contexts.{with_facts}
use Rattle.vernacular_tree.specs.declared.context.Context.{Context}
use Rattle.vernacular_tree.specs.declared.tree.Mp.{Mp}
use Rattle.vernacular_tree.specs.declared.tree.Body.{Body}
use Rattle.coherent_form.specs.Tasks.{CitedTask}
use Rattle.proof_text.specs.declared.body.Shown as Shown
use Rattle.proof_text.specs.declared.part.Edition.TheVariants.{First}
use Rattle.proof_text.specs.Branches.{named_facts}
use Rattle.proof_text.specs.Canonical.{indent}
use Rattle.proof_text.specs.Printing.{printed, printed_line}
use Rattle.proof_text.specs.ScriptOf.{names_in, form_of, step_of, fresh_of, line_by, first_list, other_lists}
use Rattle.isar_text.specs.Formulas.{line_text}
use Rattle.isar_text.specs.Heads.{line_label, form_label, quoted}
use Rattle.isar_text.specs.Bodies.{by_blast, names_text, labels_text, opening_text, lines_with, step_text, next_text, case_line, body_text}
use Rattle.isar_text.specs.declared.proof_lines.StepLine.{StepLine}

-- the line of a step up to what it says, and from what it uses on
abbrev pub front_text : ℕ → StepLine → Text
front_text level step =
    indent (level + 1) ++ opening_text step.fresh ++ line_label step.number ++ codes ": " ++
    quoted (line_text step.line)

abbrev pub back_text : StepLine → Text
back_text step =
    codes " using " ++ form_label step.form ++ labels_text step.used ++ codes " (* " ++
    names_text step.args ++ codes " *)" ++ by_blast

-- the text of what the line of a step tells
abbrev pub line_of_step : ℕ → StepLine → Text
line_of_step level step =
    indent (level + 1) ++ opening_text step.fresh ++ line_label step.number ++ codes ": " ++
    quoted (line_text step.line) ++ codes " using " ++ form_label step.form ++
    labels_text step.used ++ codes " (* " ++ names_text step.args ++ codes " *)" ++ by_blast

-- what the line of a step tells
abbrev pub step_line : CitedTask → Context → Mp → StepLine
step_line task context step = record {
  number = length context.lines;
  fresh = map (printed task) (fresh_of task context step);
  line = printed_line task (line_by task context step);
  form = step.form;
  used = lines_with context step.args (form_of task step.form).premises;
  args = map (printed task) step.args;
}

-- the text of a step
abbrev pub mp_text : ℕ → CitedTask → Context → Mp → Text
mp_text level task context step =
    step_text level (length context.lines) step.form
    (lines_with context step.args (form_of task step.form).premises)
    (step_of First task context step)

-- a body behind a list of facts, and bodies behind lists
abbrev pub branch_text : ℕ → CitedTask → Context → Body → List Atom → Text
branch_text level task context body facts =
    case_line level (length context.lines)
    (named_facts task.tables (names_in task context) facts) ++
    body_text level task body (with_facts context facts)

abbrev pub branch_texts : ℕ → CitedTask → Context → List Body → List (List Atom) → List Text
branch_texts level task context [] lists = []
branch_texts level task context (body ∷ bodies) lists =
    branch_text level task context body (first_list lists) ∷
    branch_texts level task context bodies (other_lists lists)

-- what is before the case with a number from 0
abbrev pub between : ℕ → ℕ → Text
between level zero = []
between level (suc case) = next_text level
