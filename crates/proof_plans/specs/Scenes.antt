-- What a search looks at, and what it reads there.
use Rattle.std.specs.Prelude.{ℕ, ◌+◌, ◌≡◌, List, [], ◌∷◌, ◌++◌, map, slice_get, Option, Some, None, IfSome}
use Rattle.std.specs.List.{AllByRecursion}
use Rattle.logic_core.specs.declared.form.Slot as Slot
use Rattle.logic_core.specs.declared.form.Slot.TheVariants.{Variable, Constant}
use Rattle.logic_core.specs.declared.form.Atom.{Atom}
use Rattle.logic_core.specs.declared.form.Form.{Form}
use Rattle.logic_core.specs.Forms.{AtomIsBelow}
use Rattle.vernacular_tree.specs.Contexts.{Task, counted, parameters, atom_at}
use Rattle.vernacular_tree.specs.declared.context.Context.{Context}
use Rattle.std.specs.Borrow.{Bor}
use Rattle.proof_plans.specs.declared.draft.ListOf as ListOf
use Rattle.proof_plans.specs.declared.draft.ListOf.TheVariants as list
use Rattle.proof_plans.specs.declared.draft.GoalOf as GoalOf
use Rattle.proof_plans.specs.declared.draft.GoalOf.TheVariants as goal_of
use Rattle.proof_plans.specs.declared.draft.Pair.{Pair}
use Rattle.proof_plans.specs.declared.scene.Scene.{Scene}
use Rattle.proof_plans.specs.declared.scene.Read.{Read}
use Rattle.proof_plans.specs.Drafts.{Drafted, Both}

-- the form of a disjunct of the goal: its premises, at variables in a row, are the disjunct's atoms
-- at the parameters and those variables
pub record IsAnswerForm (task : Task) (form : Form) (atoms : List Atom) : Type 0 where
  pub variables_are : form.universals ≡ task.goal.existentials
  pub constants : ℕ
  pub below : AllByRecursion (AtomIsBelow task.goal.existentials constants) form.premises
  pub same : (base : ℕ) → map (atom_at (counted base task.goal.existentials)) form.premises
      ≡ map (atom_at (parameters task ++ counted base task.goal.existentials)) atoms

-- the forms and the goal of a task, and the lines of the context that was lent
pub record IsScene (task : Task) (lent : Context) (scene : Scene) : Type 0 where
  pub forms_are : scene.forms.now ≡ task.forms
  pub answers_are : Both (IsAnswerForm task) scene.answers.now task.goal.disjuncts
  pub lines_are : scene.lines.now ≡ lent.lines

-- an atom of a form at variables in a row is a fact
pub record Reads (atom : Atom) (base : ℕ) (fact : Atom) : Type 0 where
  pub count : ℕ
  pub constants : ℕ
  pub below : AtomIsBelow count constants atom
  pub fact_is : fact ≡ atom_at (counted base count) atom

abbrev pub ReadsAs : Option Read → Atom → Type 0
ReadsAs None fact = Unit {0}
ReadsAs (Some read) fact = Reads read.atom.now read.base fact

-- the variable for variable 0 of the form of a list, or of a goal
abbrev pub list_base : ListOf.ListOf → ℕ
list_base (list.Line line) = 0
list_base (list.Case line number) = 0
list_base (list.Disjunct form base number) = base

abbrev pub goal_base : GoalOf.GoalOf → ℕ
goal_base (goal_of.Premises form base) = base
goal_base (goal_of.Disjunct number base) = base

-- the atoms of which a goal is one, as they are read
abbrev pub IsGoalList : Task → GoalOf.GoalOf → Option (Bor (List Atom)) → Type 0
IsGoalList task (goal_of.Premises form base) result = (f : Form) → slice_get task.forms form ≡ Some f
    → IfSome result (λ read. read.now ≡ f.premises)
IsGoalList task (goal_of.Disjunct number base) result = (atoms : List Atom)
    → slice_get task.goal.disjuncts number ≡ Some atoms
    → IfSome result (λ read. (form : Form) × IsAnswerForm task form atoms × (read.now ≡ form.premises))

-- the variable of a slot, where variable 0 of the form is a first one
abbrev pub slot_variable : ℕ → Slot.Slot → ℕ
slot_variable base (Variable i) = base + i
slot_variable base (Constant c) = c

-- the pairs of the arguments of two atoms
abbrev pub pairs_of : ℕ → ℕ → List Slot.Slot → List Slot.Slot → List Pair
pairs_of left right [] others = []
pairs_of left right (slot ∷ slots) [] = []
pairs_of left right (slot ∷ slots) (other ∷ others) =
    record { left = slot_variable left slot; right = slot_variable right other }
    ∷ pairs_of left right slots others

-- a plan has grown at the ends of its parts
pub record Extends (old new : Drafted) : Type 0 where
  pub start : new.start ≡ old.start
  pub bound : (more : List ℕ) × (new.bound ≡ old.bound ++ more)
  pub fixed : (more : _) × (new.fixed ≡ old.fixed ++ more)
  pub steps : (more : _) × (new.steps ≡ old.steps ++ more)
  pub nodes : (more : _) × (new.nodes ≡ old.nodes ++ more)
  pub ties : (more : _) × (new.ties ≡ old.ties ++ more)
  pub branches : (more : List ℕ) × (new.branches ≡ old.branches ++ more)
  pub goals : (more : _) × (new.goals ≡ old.goals ++ more)
  pub pairs : (more : List Pair) × (new.pairs ≡ old.pairs ++ more)
