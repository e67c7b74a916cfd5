-- Contexts of a task that may be lent: lines over the task's symbols and the context's own
-- elements, within limits.
use Rattle.std.specs.Prelude.{ℕ, ◌≤◌, List, length, sum_by}
use Rattle.std.specs.List.{AllByRecursion}
use Rattle.text_core.specs.declared.limits.TheConstants.{MOST_FORM_ATOMS, MOST_ARGUMENTS}
use Rattle.text_core.specs.Numbered.{Tables}
use Rattle.logic_core.specs.declared.form.Atom.{Atom}
use Rattle.vernacular_tree.specs.Carries.{HasElements}
use Rattle.vernacular_tree.specs.declared.context.Line.{Line}
use Rattle.vernacular_tree.specs.declared.context.Line.TheVariants.{Facts, Cases, Falsum}
use Rattle.vernacular_tree.specs.declared.context.Context.{Context}
use Rattle.coherent_form.specs.Fitting.{AtomFits}
use Rattle.coherent_form.specs.Tasks.{CitedTask, start_elements}
use Rattle.kept_context.specs.declared.limits.TheConstants.{MOST_ELEMENTS, MOST_LINES}

-- a fact over the task's symbols and so many elements
pub record IsFact (tables : Tables) (elements : ℕ) (fact : Atom) : Type 0 where
  pub fits : AtomFits tables fact
  pub elements_known : HasElements elements fact
  pub narrow : length fact.args ≤ MOST_ARGUMENTS

-- facts, not too many of them
pub record AreFacts (tables : Tables) (elements : ℕ) (facts : List Atom) : Type 0 where
  pub each : AllByRecursion (IsFact tables elements) facts
  pub few : length facts ≤ MOST_FORM_ATOMS

-- a line over the task's symbols and so many elements; cases are two or more lists
abbrev pub IsLine : Tables → ℕ → Line → Type 0
IsLine tables elements (Facts facts) = AreFacts tables elements facts
IsLine tables elements (Cases lists) =
    (2 ≤ length lists) × AllByRecursion (AreFacts tables elements) lists
IsLine tables elements Falsum = Unit {0}

-- a context of the task
pub record IsContextOf (task : CitedTask) (context : Context) : Type 0 where
  pub start : start_elements task ≤ context.elements
  pub few_elements : context.elements ≤ MOST_ELEMENTS
  pub few_lines : length context.lines ≤ MOST_LINES
  pub lines : AllByRecursion (IsLine task.tables context.elements) context.lines

-- the facts of a line, and of a context's lines, and their arguments
abbrev pub facts_in : Line → ℕ
facts_in (Facts facts) = length facts
facts_in _ = 0

abbrev pub args_in : Line → ℕ
args_in (Facts facts) = sum_by (λ fact. length fact.args) facts
args_in _ = 0

abbrev pub fact_count : Context → ℕ
fact_count context = sum_by facts_in context.lines

abbrev pub arg_count : Context → ℕ
arg_count context = sum_by args_in context.lines
