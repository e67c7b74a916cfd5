-- The task of a problem, or the first formula for which there is none.
use Rattle.std.specs.Prelude.{ℕ, ◌+◌, ◌≤◌, ◌≡◌, ◌⊎◌, Bool, true, false, ◌&&◌, if◌then◌else◌, max, List, [], ◌∷◌, ◌++◌, map, length, slice_get, Option, Some, None, is_some, unwrap_or}
use Rattle.std.specs.List.{sum_by}
use Rattle.std.specs.Str.{bytes_eq}
use Rattle.text_core.specs.Names.{Text}
use Rattle.text_core.specs.Numbered.{Tables}
use Rattle.text_core.specs.declared.limits.TheConstants.{MOST_FORMS, MOST_ATOMS, MOST_PLACES}
use Rattle.logic_core.specs.declared.form.Form.{Form}
use Rattle.logic_core.specs.declared.problem.Role.{Role}
use Rattle.logic_core.specs.declared.problem.Role.TheVariants.{Conjecture}
use Rattle.logic_core.specs.declared.problem.Fof.{Fof}
use Rattle.vernacular_tree.specs.Contexts.{Task, counted}
use Rattle.coherent_form.specs.Reading.{with_names, forms_of}
use Rattle.coherent_form.specs.Wide.{IsReadable, IsRefused}
use Rattle.coherent_form.specs.Labels.{how_many, universal_names}
use Rattle.coherent_form.specs.BuiltIns.{built_ins, built_in_form, built_in_names, built_in_citation}
use Rattle.coherent_form.specs.declared.citation.Citation.{Citation}
use Rattle.coherent_form.specs.declared.citation.Citation.TheVariants.{Axiom}
use Rattle.coherent_form.specs.declared.refusal.FormRefusal.TheVariants as form
use Rattle.coherent_form.specs.declared.task_refusal.TaskWhy.{TaskWhy}
use Rattle.coherent_form.specs.declared.task_refusal.TaskWhy.TheVariants.{NotCoherent, TooWide, TooManyConjectures, TooManyForms, ManyGoals, Memory}
use Rattle.coherent_form.specs.declared.task_refusal.TaskRefusal.{TaskRefusal}

-- forms by number, with how each is cited and the names of its universal variables; and the goal
pub record CitedTask : Type 0 where
  pub tables : Tables
  pub forms : List Form
  pub citations : List Citation
  pub variables : List (List Text)
  pub goal : Form

-- what the formulas of a problem gave so far
pub record Progress : Type 0 where
  pub tables : Tables
  pub forms : List Form
  pub citations : List Citation
  pub variables : List (List Text)
  pub goal : Option Form

-- before the first formula there is equality alone
abbrev pub nothing_read : Progress
nothing_read = record {
  tables = record { symbols = []; constants = [] };
  forms = [];
  citations = [];
  variables = [];
  goal = None;
}

abbrev pub is_conjecture : Role → Bool
is_conjecture Conjecture = true
is_conjecture _ = false

-- nothing follows from no premises: the goal of a problem without a conjecture
abbrev pub no_goal : Form
no_goal = record { universals = 0; premises = []; existentials = 0; disjuncts = [] }

-- a form of a formula with this name
abbrev pub is_named : Text → Citation → Bool
is_named name (Axiom other rank) = bytes_eq other name
is_named name _ = false

-- the citations of further forms of formulas with a name: their ranks go on
abbrev pub further : Text → List Citation → ℕ → List Citation
further name citations count =
    map (Axiom name) (counted (how_many (is_named name) citations + 1) count)

-- the forms of a formula behind those that were read, with their symbols and constants
abbrev pub tables_after : Progress → Fof → Tables
tables_after p fof = with_names fof.formula p.tables

abbrev pub forms_behind : Progress → Fof → List Form
forms_behind p fof = forms_of (tables_after p fof) [] fof.formula

-- what is given after a formula: a premise gives its forms, and the conjecture the goal
abbrev pub after_formula : Progress → Fof → Progress
after_formula p fof = let forms = forms_behind p fof in
    if is_conjecture fof.role then record {
      tables = tables_after p fof;
      forms = p.forms;
      citations = p.citations;
      variables = p.variables;
      goal = Some (unwrap_or (slice_get forms 0) no_goal);
    } else record {
      tables = tables_after p fof;
      forms = p.forms ++ forms;
      citations = p.citations ++ further fof.name p.citations (length forms);
      variables = p.variables ++ universal_names fof.formula;
      goal = p.goal;
    }

abbrev pub after_formulas : Progress → List Fof → Progress
after_formulas p [] = p
after_formulas p (fof ∷ fofs) = after_formulas (after_formula p fof) fofs

-- it is a conjecture behind another one
abbrev pub is_second : Progress → Fof → Bool
is_second p fof = is_conjecture fof.role && is_some p.goal

-- the argument places of all named symbols
abbrev pub places : Tables → ℕ
places tables = sum_by (λ symbol. symbol.arity) tables.symbols

abbrev pub atoms_in : Form → ℕ
atoms_in form = length form.premises + sum_by length form.disjuncts

-- the premises' forms are within the limits of a problem
pub record AreFew (forms : List Form) : Type 0 where
  pub count : length forms ≤ MOST_FORMS
  pub atoms : sum_by atoms_in forms ≤ MOST_ATOMS

-- what has to hold of a formula behind those that were read, one after another
abbrev pub IsFirst : Progress → Fof → Type 0
IsFirst p fof = is_second p fof ≡ false

pub record IsReadBehind (p : Progress) (fof : Fof) : Type 0 where
  pub first : IsFirst p fof
  pub readable : IsReadable fof.formula

pub record HasPlaces (p : Progress) (fof : Fof) : Type 0 where
  pub read : IsReadBehind p fof
  pub places : places (tables_after p fof) ≤ MOST_PLACES

-- a conjecture gives one form
abbrev pub IsSingle : Progress → Fof → Type 0
IsSingle p fof = is_conjecture fof.role ≡ true → length (forms_behind p fof) ≤ 1

-- it is taken
pub record IsTaken (p : Progress) (fof : Fof) : Type 0 where
  pub fits : HasPlaces p fof
  pub single : IsSingle p fof
  pub few : AreFew (after_formula p fof).forms

-- why it is refused: the first of these that does not hold
abbrev pub IsRefusedBehind : Progress → Fof → TaskWhy → Type 0
IsRefusedBehind p fof TooManyConjectures = is_second p fof ≡ true
IsRefusedBehind p fof (NotCoherent node) =
    IsFirst p fof × IsRefused fof.formula (form.NotCoherent node)
IsRefusedBehind p fof TooWide = (IsFirst p fof × IsRefused fof.formula form.TooWide)
    ⊎ (IsReadBehind p fof × (places (tables_after p fof) ≤ MOST_PLACES → ⊥))
IsRefusedBehind p fof ManyGoals = HasPlaces p fof × (IsSingle p fof → ⊥)
IsRefusedBehind p fof TooManyForms =
    HasPlaces p fof × IsSingle p fof × (AreFew (after_formula p fof).forms → ⊥)
IsRefusedBehind p fof Memory = ⊥

-- all formulas are taken in order
abbrev pub AreTaken : Progress → List Fof → Type 0
AreTaken p [] = Unit {0}
AreTaken p (fof ∷ fofs) = IsTaken p fof × AreTaken (after_formula p fof) fofs

-- the task of what was read: the built-in axioms come behind the premises' forms
abbrev pub task_of : Progress → CitedTask
task_of p = let goal = unwrap_or p.goal no_goal in
    let axioms = built_ins p.tables (goal ∷ p.forms) in
    let forms = map (built_in_form p.tables) axioms in record {
      tables = p.tables;
      forms = p.forms ++ forms;
      citations = p.citations ++ map (built_in_citation p.tables) axioms;
      variables = p.variables ++ map built_in_names forms;
      goal = goal;
    }

-- a problem has this task
pub record IsTaskOf (problem : List Fof) (task : CitedTask) : Type 0 where
  pub taken : AreTaken nothing_read problem
  pub task_is : task ≡ task_of (after_formulas nothing_read problem)

-- the first formula that is refused, counted from 1
pub record IsTaskFault (problem : List Fof) (refusal : TaskRefusal) : Type 0 where
  pub front : List Fof
  pub fof : Fof
  pub rest : List Fof
  pub problem_is : problem ≡ front ++ fof ∷ rest
  pub taken : AreTaken nothing_read front
  pub formula : refusal.formula ≡ length front + 1
  pub why : IsRefusedBehind (after_formulas nothing_read front) fof refusal.why

-- the start elements are the constants and the parameters, or one element where there is neither
abbrev pub start_elements : CitedTask → ℕ
start_elements task = max 1 (length task.tables.constants + task.goal.universals)

-- what is to be proved
abbrev pub proof_task : CitedTask → Task
proof_task task =
    record { forms = task.forms; goal = task.goal; start = start_elements task }
