-- Signs of symbols that may stand in a branch: for a symbol and a sign, any atom, and one with two
-- arguments that differ.
use Rattle.std.specs.Prelude.{ℕ, ◌≡◌, ◌≢◌, Bool, true, false, List, [], ◌∷◌, slice_get, Option, Some, None}
use Rattle.std.specs.List.{AllByRecursion}
use Rattle.logic_core.specs.declared.form.Slot.{Slot}
use Rattle.logic_core.specs.declared.form.Atom.{Atom}
use Rattle.logic_core.specs.declared.form.Form.{Form}
use Rattle.vernacular_tree.specs.Carries.{image}
use Rattle.vernacular_tree.specs.Contexts.{Task}
use Rattle.vernacular_tree.specs.declared.context.Line.{Line}
use Rattle.vernacular_tree.specs.declared.context.Context.{Context}
use Rattle.proof_plans.specs.declared.draft.PlanGoal.{PlanGoal}
use Rattle.proof_plans.specs.declared.reach.Reached.{Reached}
use Rattle.proof_plans.specs.declared.reach.Told.{Told}
use Rattle.proof_plans.specs.declared.scene.Scene.{Scene}
use Rattle.proof_plans.specs.Runs.{Case, line_facts}
use Rattle.proof_plans.specs.Plans.{Goal}
use Rattle.proof_plans.specs.Embeds.{GoalIs}
use Rattle.proof_plans.specs.Drafts.{Drafted, IsGoal, with_goal}
use Rattle.proof_plans.specs.Hopes.{Hope}
use Rattle.proof_plans.specs.Scenes.{IsScene}
use Rattle.proof_plans.specs.Idle.{IsIdle}

-- what is told of a symbol with a sign
abbrev pub told_of : Option Reached → Bool → Option Told
told_of None positive = None
told_of (Some told) true = Some told.positive
told_of (Some told) false = Some told.negative

-- whether an atom may stand, and whether one with two arguments that differ may; of what is not
-- told, each may
abbrev pub any_may : Option Told → Bool
any_may None = true
any_may (Some told) = told.any

abbrev pub differing_may : Option Told → Bool
differing_may None = true
differing_may (Some told) = told.differing

-- an atom with this sign may stand
abbrev pub MayStand : List Reached → Atom → Type 0
MayStand row atom = any_may (told_of (slice_get row atom.symbol) atom.positive) ≡ true

-- one with this sign and two arguments that differ may
abbrev pub MayDiffer : List Reached → Atom → Type 0
MayDiffer row atom = differing_may (told_of (slice_get row atom.symbol) atom.positive) ≡ true

-- there are two arguments, and they differ
abbrev pub Differ : List Slot → Type 0
Differ args = (left : Slot) × (right : Slot) × (args ≡ left ∷ right ∷ []) × (left ≢ right)

-- an atom is one of those that may stand
abbrev pub IsReached : List Reached → Atom → Type 0
IsReached row atom = MayStand row atom × (Differ atom.args → MayDiffer row atom)

-- a premise is, in an application that makes something new
abbrev pub PremiseReached : List Reached → Form → List Atom → Atom → Type 0
PremiseReached row form facts premise =
    MayStand row premise × (IsIdle form facts premise → MayDiffer row premise)

-- where the premises of a form are reached, the facts of its line are, if it is one of facts
abbrev pub IsKept : List Reached → Form → Type 0
IsKept row form = (facts : List Atom) → form.disjuncts ≡ facts ∷ []
    → AllByRecursion (PremiseReached row form facts) form.premises
    → AllByRecursion (IsReached row) facts

-- the facts of a line, and of a case, are reached
abbrev pub LineReached : List Reached → Line → Type 0
LineReached row line = AllByRecursion (IsReached row) (line_facts line)

abbrev pub CaseReached : List Reached → Case → Type 0
CaseReached row case = AllByRecursion (IsReached row) case.facts

-- no proof has the plan as a part in which the goal is one of the atoms that may stand
abbrev pub IsUnmet : List Reached → Scene → Drafted → PlanGoal → Type 0
IsUnmet row scene d g = (task : Task) (lent : Context) (n : ℕ) → IsScene task lent scene
    → (h : Hope task lent n (with_goal g d)) (goal : Goal) → IsGoal task lent d.nodes g goal
    → GoalIs h.fires h.values h.indices goal → IsReached row (image h.values goal.atom) → ⊥
