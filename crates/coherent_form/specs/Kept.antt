-- How a task is kept, and what holds of each.
use Rattle.std.specs.Prelude.{ℕ, ◌+◌, ◌^◌, ◌<◌, ◌≤◌, ◌≡◌, nat_eq, true, List, [], ◌∷◌, map, drop, ◌++◌, length, slice_get}
use Rattle.std.specs.List.{AllByRecursion, IsDistinct}
use Rattle.std.specs.Cmp.Lexicographic.{pointwise}
use Rattle.text_core.specs.Names.{Text}
use Rattle.text_core.specs.NameTexts.{is_upper_word}
use Rattle.text_core.specs.Numbered.{Tables, text_or_empty}
use Rattle.logic_core.specs.declared.form.Form.{Form}
use Rattle.coherent_form.specs.declared.limits.TheConstants.{MOST_SYMBOLS, MOST_CONSTANTS, TASK_FORMS_BELOW}
use Rattle.coherent_form.specs.BuiltIns.{built_in_citation, built_in_names}
use Rattle.coherent_form.specs.Fitting.{FormFits}
use Rattle.coherent_form.specs.Tasks.{CitedTask}
use Rattle.coherent_form.specs.declared.citation.Citation.{Citation}
use Rattle.coherent_form.specs.declared.citation.Citation.TheVariants.{Axiom}
use Rattle.coherent_form.specs.declared.source.BuiltIn as built_in
use Rattle.coherent_form.specs.declared.source.BuiltIn.TheVariants.{Sub, No, Or}
use Rattle.coherent_form.specs.declared.source.Source as source
use Rattle.coherent_form.specs.declared.source.Source.TheVariants.{Formula, BuiltIn}

-- a source that is a formula of the problem
abbrev pub IsGiven : source.Source → Type 0
IsGiven (Formula name rank) = Unit {0}
IsGiven (BuiltIn built) = ⊥

-- the name with a number
abbrev pub name_at : List Text → ℕ → Text
name_at names n = text_or_empty (slice_get names n)

-- how a form is cited that comes from there
abbrev pub citation_at : List Text → Tables → source.Source → Citation
citation_at names tables (Formula name rank) = Axiom (name_at names name) rank
citation_at names tables (BuiltIn built) = built_in_citation tables built

-- the variables of each form: those of the first are kept, and the others are built in
abbrev pub variables_at : List Text → List (List ℕ) → List Form → List (List Text)
variables_at names kept forms =
    map (map (name_at names)) kept ++ map built_in_names (drop (length kept) forms)

-- the task that is kept in this way
abbrev pub kept_task : Tables → List Text → List Form → List source.Source → List (List ℕ) → Form
    → CitedTask
kept_task tables names forms sources variables goal = record {
  tables = tables;
  forms = forms;
  citations = map (citation_at names tables) sources;
  variables = variables_at names variables forms;
  goal = goal;
}

-- the variables of a form: as many names as it has universal variables, each an upper word
pub record AreVariablesOf (form : Form) (names : List Text) : Type 0 where
  pub count : length names ≡ form.universals
  pub words : AllByRecursion (λ name. is_upper_word name ≡ true) names

-- a form with each list
abbrev pub AreVariables : List Form → List (List Text) → Type 0
AreVariables [] [] = Unit {0}
AreVariables [] (names ∷ more) = ⊥
AreVariables (form ∷ forms) [] = ⊥
AreVariables (form ∷ forms) (names ∷ more) = AreVariablesOf form names × AreVariables forms more

-- what holds of each task: its forms and its goal fit, each form has a citation and variables, and
-- numbers are small
pub record IsRight (task : CitedTask) : Type 0 where
  pub forms : AllByRecursion (FormFits task.tables) task.forms
  pub goal : FormFits task.tables task.goal
  pub citations : length task.citations ≡ length task.forms
  pub variables : AreVariables task.forms task.variables
  pub few_forms : length task.forms < TASK_FORMS_BELOW
  pub few_symbols : length task.tables.symbols + 1 ≤ MOST_SYMBOLS
  pub few_constants : length task.tables.constants ≤ MOST_CONSTANTS

-- the symbol of a built-in axiom is there
abbrev pub BuiltInIsThere : ℕ → built_in.BuiltIn → Type 0
BuiltInIsThere symbols (Sub positive symbol place) = symbol < symbols
BuiltInIsThere symbols (No symbol) = symbol < symbols
BuiltInIsThere symbols (Or symbol) = symbol < symbols
BuiltInIsThere symbols _ = Unit {0}

abbrev pub SourceIsThere : ℕ → ℕ → source.Source → Type 0
SourceIsThere names symbols (Formula name rank) = name < names
SourceIsThere names symbols (BuiltIn built) = BuiltInIsThere symbols built

-- how it is kept: names are there once, and each source's name or symbol is there
pub record IsKept (names : List Text) (sources : List source.Source) (task : CitedTask)
    : Type 0 where
  pub distinct : IsDistinct (pointwise nat_eq) names
  pub few_names : length names < 2 ^ 32
  pub there : AllByRecursion (SourceIsThere (length names) (length task.tables.symbols + 1)) sources
  pub right : IsRight task
