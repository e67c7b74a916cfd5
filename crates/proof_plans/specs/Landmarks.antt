-- Forms that every proof needs, and sets of facts that show it.
use Rattle.std.specs.Prelude.{ℕ, ◌+◌, ◌*◌, ◌<◌, ◌≤◌, ◌≡◌, ◌≢◌, Bool, true, false, List, [], ◌∷◌, ◌++◌, length, slice_get, slice_index, Some}
use Rattle.std.specs.List.{AllByRecursion}
use Rattle.text_core.specs.Lists.{SomeOf}
use Rattle.logic_core.specs.declared.form.Slot.{Slot}
use Rattle.logic_core.specs.declared.form.Slot.TheVariants.{Variable, Constant}
use Rattle.logic_core.specs.declared.form.Atom.{Atom}
use Rattle.logic_core.specs.declared.form.Form.{Form}
use Rattle.vernacular_tree.specs.Contexts.{Task, counted, atom_at}
use Rattle.vernacular_tree.specs.declared.context.Line.{Line}
use Rattle.vernacular_tree.specs.declared.context.Line.TheVariants.{Facts, Cases, Falsum}
use Rattle.vernacular_tree.specs.declared.context.Context.{Context}
use Rattle.vernacular_tree.specs.declared.tree.End.{End}
use Rattle.proof_plans.specs.declared.draft.PlanStep.{PlanStep}
use Rattle.proof_plans.specs.declared.fact_set.FactSet.{FactSet}
use Rattle.proof_plans.specs.Runs.{Fire, IsRun, IsClosed, root_of}
use Rattle.proof_plans.specs.Embeds.{AreApart}

-- the element that a slot of a fact is
abbrev pub element_in : Slot → ℕ
element_in (Variable i) = i
element_in (Constant c) = c

-- elements as the digits of a number, behind those of a first number
abbrev pub digits : ℕ → ℕ → List Slot → ℕ
digits base first [] = first
digits base first (slot ∷ slots) = digits base (first * base + element_in slot) slots

abbrev pub sign_digit : Bool → ℕ
sign_digit true = 1
sign_digit false = 0

-- the place of a fact; two facts may have one place, and then are both in a set or both not
abbrev pub place_in : ℕ → List ℕ → Atom → ℕ
place_in elements starts fact = slice_index starts fact.symbol
    + digits elements (sign_digit fact.positive) fact.args

-- a fact is in the set
abbrev pub IsTold : FactSet → Atom → Type 0
IsTold set fact = slice_get set.told.now (place_in set.elements set.starts.now fact) ≡ Some true

-- the facts of atoms at elements are
abbrev pub AreTold : FactSet → List ℕ → List Atom → Type 0
AreTold set elements atoms = AllByRecursion (λ atom. IsTold set (atom_at elements atom)) atoms

-- those of one of several lists are
abbrev pub SomeTold : FactSet → List ℕ → List (List Atom) → Type 0
SomeTold set elements lists = SomeOf (AreTold set elements) lists

-- a line holds in the set: its facts are in it, or those of one of its cases
abbrev pub LineHolds : FactSet → Line → Type 0
LineHolds set (Facts facts) = AreTold set [] facts
LineHolds set (Cases lists) = SomeTold set [] lists
LineHolds set Falsum = ⊥

-- a form holds in the set, where its first universal variables have these elements, and its
-- existential ones those from a first one on
abbrev pub HoldsFrom : FactSet → Form → ℕ → List ℕ → Type 0
HoldsFrom set form fresh values = (more : List ℕ) → length (values ++ more) ≡ form.universals
    → AllByRecursion (λ e. e < set.elements) more → AreTold set (values ++ more) form.premises
    → SomeTold set ((values ++ more) ++ counted fresh form.existentials) form.disjuncts

abbrev pub FormHolds : FactSet → ℕ → Form → Type 0
FormHolds set fresh form = (fresh + form.existentials ≤ set.elements) × HoldsFrom set form fresh []

-- each of the forms holds in the set, but for the one with this number
abbrev pub FormsHold : FactSet → List Form → ℕ → Type 0
FormsHold set forms but = (number : ℕ) (form : Form) → slice_get forms number ≡ Some form
    → number ≢ but → (fresh : ℕ) × (slice_get set.fresh.now number ≡ Some fresh) × FormHolds set fresh form

-- the premises of a form are never all in the set
abbrev pub IsRefuted : FactSet → Form → Type 0
IsRefuted set form = (values : List ℕ) → length values ≡ form.universals
    → AllByRecursion (λ e. e < set.elements) values → AreTold set values form.premises → ⊥

-- each proof from the context has an application of the form with this number
abbrev pub IsLandmark : Task → Context → ℕ → Type 0
IsLandmark task lent number = (fires : List Fire) (end : End) → IsRun task lent fires
    → IsClosed task lent fires end (root_of lent) → SomeOf (λ fire. fire.number ≡ number) fires

-- so it is for each of these numbers, no two of which are the same
abbrev pub AreLandmarks : Task → Context → List ℕ → Type 0
AreLandmarks task lent numbers = AreApart numbers × AllByRecursion (IsLandmark task lent) numbers

-- no step is by the form with this number
abbrev pub IsMissing : List PlanStep → ℕ → Type 0
IsMissing steps number = AllByRecursion (λ step. step.form ≢ number) steps

-- each proof from the context needs so many forms that no step is by
pub record HasMissing (task : Task) (lent : Context) (steps : List PlanStep) (count : ℕ) : Type 0 where
  pub numbers : List ℕ
  pub are : AreLandmarks task lent numbers
  pub missing : AllByRecursion (IsMissing steps) numbers
  pub many : count ≡ length numbers
