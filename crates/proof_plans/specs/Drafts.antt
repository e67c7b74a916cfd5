-- How a plan is kept in place.
use Rattle.std.specs.Prelude.{ℕ, zero, suc, ◌+◌, ◌≡◌, ◌≢◌, ◌⊎◌, Bool, true, false, List, [], ◌∷◌, ◌++◌, map, length, replicate, take, set, slice_get, slice_index, Some, None, Option}
use Rattle.logic_core.specs.declared.form.Slot as Slot
use Rattle.logic_core.specs.declared.form.Slot.TheVariants.{Variable, Constant}
use Rattle.logic_core.specs.declared.form.Atom.{Atom}
use Rattle.logic_core.specs.declared.form.Form.{Form}
use Rattle.vernacular_tree.specs.Contexts.{Task, counted, parameters, atom_at}
use Rattle.vernacular_tree.specs.declared.context.Context.{Context}
use Rattle.vernacular_tree.specs.declared.context.Line.TheVariants.{Facts, Cases}
use Rattle.proof_plans.specs.declared.draft.PlanStep.{PlanStep}
use Rattle.proof_plans.specs.declared.draft.ListOf as ListOf
use Rattle.proof_plans.specs.declared.draft.ListOf.TheVariants as list
use Rattle.proof_plans.specs.declared.draft.Node.{Node}
use Rattle.proof_plans.specs.declared.draft.GoalOf as GoalOf
use Rattle.proof_plans.specs.declared.draft.GoalOf.TheVariants as goal_of
use Rattle.proof_plans.specs.declared.draft.PlanGoal.{PlanGoal}
use Rattle.proof_plans.specs.declared.draft.PlanTie as PlanTie
use Rattle.proof_plans.specs.declared.draft.PlanTie.TheVariants as tie
use Rattle.proof_plans.specs.declared.draft.Pair.{Pair}
use Rattle.proof_plans.specs.declared.draft.Mark.{Mark}
use Rattle.proof_plans.specs.Runs.{Case, root_of}
use Rattle.proof_plans.specs.Plans.{Step, Tie, before, under, over, Goal, Plan}

-- a plan as it is kept: besides a plan's parts, pairs of variables that are to stand for one element
pub record Drafted : Type 0 where
  pub start : ℕ
  pub bound : List ℕ
  pub fixed : List Bool
  pub steps : List PlanStep
  pub nodes : List Node
  pub ties : List PlanTie.PlanTie
  pub branches : List ℕ
  pub closed : ℕ
  pub goals : List PlanGoal
  pub pairs : List Pair

-- each item of a list with one of another
abbrev pub Both : {X Y : Type 0} → (X → Y → Type 0) → List X → List Y → Type 0
Both P [] [] = Unit {0}
Both P [] (y ∷ ys) = ⊥
Both P (x ∷ xs) [] = ⊥
Both P (x ∷ xs) (y ∷ ys) = P x y × Both P xs ys

-- the variable for a slot of an atom
abbrev pub variable_in : List ℕ → Slot.Slot → ℕ
variable_in variables (Variable i) = slice_index variables i
variable_in variables (Constant c) = c

-- the number of a case in its split
abbrev pub case_number : ListOf.ListOf → ℕ
case_number (list.Line line) = 0
case_number (list.Case line number) = number
case_number (list.Disjunct form base number) = number

-- the variables of a form's variables, from a first one on
abbrev pub form_variables : ℕ → Form → List ℕ
form_variables base form = counted base (form.universals + form.existentials)

-- a branch is so many splits above another one
abbrev pub IsReached : List Node → ℕ → ℕ → ℕ → Type 0
IsReached nodes zero lower upper = lower ≡ upper
IsReached nodes (suc count) lower upper = (lower ≢ 0)
    × ((node : Node) × (slice_get nodes lower ≡ Some node) × IsReached nodes count node.parent upper)

module _ (task : Task) (lent : Context) where
  -- the atoms of a list, and their variables
  abbrev pub AreListed : ListOf.ListOf → List Atom → List ℕ → Type 0
  AreListed (list.Line line) atoms variables =
      (slice_get lent.lines line ≡ Some (Facts atoms)) × (variables ≡ [])
  AreListed (list.Case line number) atoms variables = (lists : List (List Atom))
      × (slice_get lent.lines line ≡ Some (Cases lists)) × (slice_get lists number ≡ Some atoms)
      × (variables ≡ [])
  AreListed (list.Disjunct form base number) atoms variables = (f : Form)
      × (slice_get task.forms form ≡ Some f) × (slice_get f.disjuncts number ≡ Some atoms)
      × (variables ≡ form_variables base f)

  -- a step that is kept so
  pub record IsStep (kept : PlanStep) (step : Step) : Type 0 where
    pub number_is : step.number ≡ kept.form
    pub form_is : slice_get task.forms kept.form ≡ Some step.form
    pub base_is : step.base ≡ kept.base

  -- a case that is kept so
  pub record IsCase (node : Node) (case : Case) : Type 0 where
    pub number_is : case.number ≡ case_number node.of
    pub atoms : List Atom
    pub variables : List ℕ
    pub listed : AreListed node.of atoms variables
    pub facts_are : case.facts ≡ map (atom_at variables) atoms

  -- a branch that is kept so: number 0 is the one in which a proof begins
  abbrev pub IsBranch : List Node → ℕ → List Case → Type 0
  IsBranch nodes number [] = ⊥
  IsBranch nodes number (case ∷ upper) = ((number ≡ 0) × (case ∷ upper ≡ root_of lent))
      ⊎ ((node : Node) × (slice_get nodes number ≡ Some node) × (number ≢ 0) × IsCase node case
      × IsBranch nodes node.parent upper)

  -- the atoms of which a goal is one, and their variables
  abbrev pub AreAtomsOf : GoalOf.GoalOf → List Atom → List ℕ → Type 0
  AreAtomsOf (goal_of.Premises form base) atoms variables = (f : Form)
      × (slice_get task.forms form ≡ Some f) × (atoms ≡ f.premises)
      × (variables ≡ form_variables base f)
  AreAtomsOf (goal_of.Disjunct number base) atoms variables =
      (slice_get task.goal.disjuncts number ≡ Some atoms)
      × (variables ≡ parameters task ++ counted base task.goal.existentials)

  -- a goal that is kept so
  pub record IsGoal (nodes : List Node) (kept : PlanGoal) (goal : Goal) : Type 0 where
    pub atoms : List Atom
    pub variables : List ℕ
    pub atom : Atom
    pub are : AreAtomsOf kept.of atoms variables
    pub atom_is : slice_get atoms kept.number ≡ Some atom
    pub goal_is : goal.atom ≡ atom_at variables atom
    pub user_is : goal.user ≡ kept.user
    pub branch_is : IsBranch nodes kept.node goal.branch

  -- what is known of a step that is kept so
  abbrev pub IsTie : List Node → PlanTie.PlanTie → Tie → Type 0
  IsTie nodes (tie.Before low high) (before lower upper) = (lower ≡ low) × (upper ≡ high)
  IsTie nodes (tie.Under number node) (under step branch) = (step ≡ number) × IsBranch nodes node branch
  IsTie nodes (tie.Over number node) (over step branch) = (step ≡ number) × IsBranch nodes node branch
  IsTie nodes _ _ = ⊥

  -- a plan that is kept so
  pub record Keeps (kept : Drafted) (plan : Plan) : Type 0 where
    pub start_is : kept.start ≡ lent.elements
    pub bound_is : kept.bound ≡ plan.bound
    pub fixed_is : kept.fixed ≡ plan.fixed
    pub steps_are : Both IsStep kept.steps plan.steps
    pub ties_are : Both (IsTie kept.nodes) kept.ties plan.ties
    pub branches_are : Both (IsBranch kept.nodes) kept.branches plan.branches
    pub closed_is : kept.closed ≡ plan.closed
    pub goals_are : Both (IsGoal kept.nodes) kept.goals plan.goals

-- the plan with which a search begins; branch 0 is told by its number alone
abbrev pub first_draft : ℕ → Drafted
first_draft start = record {
  start = start;
  bound = [];
  fixed = [];
  steps = [];
  nodes = record { parent = 0; of = list.Line 0 } ∷ [];
  ties = [];
  branches = 0 ∷ [];
  closed = 0;
  goals = [];
  pairs = [];
}

-- a point at which it is, and how it goes back to one
abbrev pub mark_of : Drafted → Mark
mark_of d = record {
  bound = length d.bound;
  fixed = length d.fixed;
  steps = length d.steps;
  nodes = length d.nodes;
  ties = length d.ties;
  branches = length d.branches;
  goals = length d.goals;
  pairs = length d.pairs;
  closed = d.closed;
}

abbrev pub cut : Mark → Drafted → Drafted
cut mark d = record {
  start = d.start;
  bound = take mark.bound d.bound;
  fixed = take mark.fixed d.fixed;
  steps = take mark.steps d.steps;
  nodes = take mark.nodes d.nodes;
  ties = take mark.ties d.ties;
  branches = take mark.branches d.branches;
  closed = mark.closed;
  goals = take mark.goals d.goals;
  pairs = take mark.pairs d.pairs;
}

-- a draft with one more goal, branch or pair
abbrev pub with_goal : PlanGoal → Drafted → Drafted
with_goal goal d = record d { goals = d.goals ++ goal ∷ [] }

-- an item stands at a place again, and the one that was there behind the others
abbrev pub put_before : {X : Type 0} → ℕ → X → List X → Option X → List X
put_before at item items (Some newest) = set items at item ++ newest ∷ []
put_before at item items None = items ++ item ∷ []

abbrev pub put : {X : Type 0} → ℕ → X → List X → List X
put at item items = put_before at item items (slice_get items at)

abbrev pub with_goal_at : ℕ → PlanGoal → Drafted → Drafted
with_goal_at at goal d = record d { goals = put at goal d.goals }

-- as many goals in a row, which a user has, seen from a branch
abbrev pub goals_from : GoalOf.GoalOf → Option ℕ → ℕ → ℕ → ℕ → List PlanGoal
goals_from of user node first zero = []
goals_from of user node first (suc count) =
    record { of = of; number = first; user = user; node = node } ∷ goals_from of user node (first + 1) count

-- a draft with one more step, whose premises are goals seen from a branch
abbrev pub grown_draft : ℕ → Form → ℕ → Drafted → Drafted
grown_draft number form node d =
    let base = d.start + length d.bound in
    record d {
      bound = d.bound ++ counted base (form.universals + form.existentials);
      fixed = d.fixed ++ (replicate form.universals false ++ replicate form.existentials true);
      steps = d.steps ++ record { form = number; base = base } ∷ [];
      goals = d.goals ++ goals_from (goal_of.Premises number base) (Some (length d.steps)) node 0
          (length form.premises);
    }

abbrev pub with_branch : ℕ → Drafted → Drafted
with_branch node d = record d { branches = d.branches ++ node ∷ [] }

abbrev pub with_pair : Pair → Drafted → Drafted
with_pair pair d = record d { pairs = d.pairs ++ pair ∷ [] }

abbrev pub with_tie : PlanTie.PlanTie → Drafted → Drafted
with_tie t d = record d { ties = d.ties ++ t ∷ [] }
