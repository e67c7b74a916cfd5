-- What a plan that is kept in place leaves open: that some proof within a bound has it as a part.
use Rattle.std.specs.Prelude.{ℕ, ◌+◌, ◌≤◌, ◌≡◌, ◌≢◌, Bool, true, List, [], ◌∷◌, ◌++◌, map, length, slice_get, slice_index, Some}
use Rattle.std.specs.List.{AllByRecursion}
use Rattle.text_core.specs.Lists.{IsAmong}
use Rattle.logic_core.specs.declared.form.Atom.{Atom}
use Rattle.logic_core.specs.declared.form.Form.{Form}
use Rattle.vernacular_tree.specs.Carries.{image}
use Rattle.vernacular_tree.specs.Contexts.{Task, atom_at}
use Rattle.vernacular_tree.specs.Tasks.{IsTask}
use Rattle.vernacular_tree.specs.Witnessed.{IsContext}
use Rattle.vernacular_tree.specs.declared.context.Line.{Line}
use Rattle.vernacular_tree.specs.declared.context.Context.{Context}
use Rattle.vernacular_tree.specs.declared.tree.End.{End}
use Rattle.proof_plans.specs.declared.draft.PlanStep.{PlanStep}
use Rattle.proof_plans.specs.declared.draft.Node.{Node}
use Rattle.proof_plans.specs.declared.draft.ListOf as ListOf
use Rattle.proof_plans.specs.declared.draft.ListOf.TheVariants as list
use Rattle.proof_plans.specs.declared.draft.PlanGoal.{PlanGoal}
use Rattle.proof_plans.specs.declared.draft.Pair.{Pair}
use Rattle.proof_plans.specs.declared.choice.Choice as Choice
use Rattle.proof_plans.specs.declared.choice.Choice.TheVariants as choice
use Rattle.proof_plans.specs.declared.open.Open as Open
use Rattle.proof_plans.specs.declared.open.Open.TheVariants as open_value
use Rattle.proof_plans.specs.Runs.{Case, Fire, IsRun, IsEnded, given_lists}
use Rattle.proof_plans.specs.Barren.{IsTight}
use Rattle.proof_plans.specs.Plans.{Goal, Plan}
use Rattle.proof_plans.specs.Embeds.{IsBefore, IsUnder, IsOver, Embeds, ends_in}
use Rattle.proof_plans.specs.Moves.{lists_in, next_step, grown, answered, split, with_goals, with_branches}
use Rattle.proof_plans.specs.Drafts.{Drafted, AreListed, IsBranch, IsReached, IsGoal, Keeps, form_variables, with_goal, with_branch}

-- two variables stand for one element
abbrev pub PairHolds : List ℕ → Pair → Type 0
PairHolds values pair = slice_index values pair.left ≡ slice_index values pair.right

-- some proof from the context with at most so many applications, each of which makes something new,
-- has the plan as a part
pub record Hope (task : Task) (lent : Context) (most : ℕ) (d : Drafted) : Type 0 where
  pub constants : ℕ
  pub right : IsTask constants task
  pub ok : IsContext task lent
  pub plan : Plan
  pub keeps : Keeps task lent d plan
  pub fires : List Fire
  pub run : IsRun task lent fires
  pub tight : IsTight fires
  pub ended : IsEnded task lent fires
  pub values : List ℕ
  pub indices : List ℕ
  pub left : List End
  pub embeds : Embeds task lent fires plan values indices left
  pub pairs : AllByRecursion (PairHolds values) d.pairs
  pub small : length fires + plan.closed + ends_in left ≤ most

-- there is no such proof; where the bound cut nothing off, there is none of any size
abbrev pub IsHopeless : Task → Context → ℕ → Bool → Drafted → Type 0
IsHopeless task lent most cut d = (n : ℕ) → (cut ≡ true → n ≤ most) → Hope task lent n d → ⊥

module _ (task : Task) (lent : Context) (n : ℕ) (d : Drafted) where
  -- an atom of a list stands for the same fact as the goal
  pub record FactIs (values : List ℕ) (goal : Goal) (of : ListOf.ListOf) (number : ℕ) : Type 0 where
    pub atoms : List Atom
    pub variables : List ℕ
    pub atom : Atom
    pub listed : AreListed task lent of atoms variables
    pub atom_is : slice_get atoms number ≡ Some atom
    pub same : image values (atom_at variables atom) ≡ image values goal.atom

  module _ (g : PlanGoal) (h : Hope task lent n (with_goal g d)) where
    -- the newest goal of the plan
    pub record Newest : Type 0 where
      pub rest : List Goal
      pub goal : Goal
      pub goals_are : h.plan.goals ≡ rest ++ goal ∷ []
      pub is : IsGoal task lent d.nodes g goal

    -- the goal is a fact of the context
    pub record ByGiven (line number : ℕ) : Type 0 where
      pub newest : Newest
      pub fact : FactIs h.values newest.goal (list.Line line) number

    -- the goal is a fact of a case
    pub record ByCase (node number : ℕ) : Type 0 where
      pub newest : Newest
      pub kept : Node
      pub kept_is : slice_get d.nodes node ≡ Some kept
      pub branch : List Case
      pub branch_is : IsBranch task lent d.nodes node branch
      pub count : ℕ
      pub reached : IsReached d.nodes count g.node node
      pub inner : node ≢ 0
      pub fact : FactIs h.values newest.goal kept.of number
      pub tie : (user : ℕ) → g.user ≡ Some user → IsUnder h.fires h.values h.indices user branch

    -- the goal is a fact of a step
    pub record ByStep (step number : ℕ) : Type 0 where
      pub newest : Newest
      pub kept : PlanStep
      pub kept_is : slice_get d.steps step ≡ Some kept
      pub f : Form
      pub f_is : slice_get task.forms kept.form ≡ Some f
      pub one : length f.disjuncts ≡ 1
      pub fact : FactIs h.values newest.goal (list.Disjunct kept.form kept.base 0) number
      pub seen : IsOver h.fires h.values h.indices step newest.goal.branch
      pub tie : (user : ℕ) → g.user ≡ Some user → IsBefore h.fires h.indices step user

    -- the goal is a fact of a new step
    pub record ByForm (form number : ℕ) : Type 0 where
      pub newest : Newest
      pub f : Form
      pub f_is : slice_get task.forms form ≡ Some f
      pub one : length f.disjuncts ≡ 1
      pub elements : List ℕ
      pub index : ℕ
      pub embeds : Embeds task lent h.fires
          (grown lent.elements form f newest.goal.branch (with_goals newest.rest h.plan))
          (h.values ++ elements) (h.indices ++ index ∷ []) h.left
      pub fact : FactIs (h.values ++ elements) newest.goal
          (list.Disjunct form (next_step lent.elements form f h.plan).base 0) number
      pub seen : IsOver h.fires (h.values ++ elements) (h.indices ++ index ∷ [])
          (length h.plan.steps) newest.goal.branch
      pub tie : (user : ℕ) → g.user ≡ Some user
          → IsBefore h.fires (h.indices ++ index ∷ []) (length h.plan.steps) user

    -- the goal stands so
    abbrev pub GoalBy : Choice.Choice → Type 0
    GoalBy (choice.Given line number) = ByGiven line number
    GoalBy (choice.Case node number) = ByCase node number
    GoalBy (choice.Step step number) = ByStep step number
    GoalBy (choice.Form form number) = ByForm form number
    GoalBy _ = ⊥

  module _ (node : ℕ) (h : Hope task lent n (with_branch node d)) where
    -- the newest branch of the plan
    pub record Last : Type 0 where
      pub rest : List (List Case)
      pub branch : List Case
      pub branches_are : h.plan.branches ≡ rest ++ branch ∷ []
      pub is : IsBranch task lent d.nodes node branch

    -- it is closed by a disjunct of the goal
    pub record ByAnswer (disjunct : ℕ) : Type 0 where
      pub last : Last
      pub atoms : List Atom
      pub disjunct_is : slice_get task.goal.disjuncts disjunct ≡ Some atoms
      pub elements : List ℕ
      pub ends : List End
      pub embeds : Embeds task lent h.fires
          (answered lent.elements task atoms last.branch (with_branches last.rest h.plan))
          (h.values ++ elements) h.indices ends
      pub spent : ends_in h.left ≡ ends_in ends + 1

    -- it is split by a line of the context
    pub record ByLine (line : ℕ) : Type 0 where
      pub last : Last
      pub given : Line
      pub line_is : slice_get lent.lines line ≡ Some given
      pub lists : List (List Atom)
      pub lists_are : IsAmong lists (given_lists given)
      pub ends : List End
      pub embeds : Embeds task lent h.fires
          (split lists last.branch (with_branches last.rest h.plan)) h.values h.indices ends
      pub spent : ends_in h.left ≡ ends_in ends + 1

    -- it is split by a step
    pub record ByOld (step : ℕ) : Type 0 where
      pub last : Last
      pub kept : PlanStep
      pub kept_is : slice_get d.steps step ≡ Some kept
      pub f : Form
      pub f_is : slice_get task.forms kept.form ≡ Some f
      pub several : length f.disjuncts ≢ 1
      pub seen : IsOver h.fires h.values h.indices step last.branch
      pub ends : List End
      pub embeds : Embeds task lent h.fires
          (split (map (map (atom_at (form_variables kept.base f))) f.disjuncts) last.branch
          (with_branches last.rest h.plan)) h.values h.indices ends
      pub spent : ends_in h.left ≡ ends_in ends + 1

    -- it is split by a new step
    pub record ByNew (form : ℕ) : Type 0 where
      pub last : Last
      pub f : Form
      pub f_is : slice_get task.forms form ≡ Some f
      pub several : length f.disjuncts ≢ 1
      pub elements : List ℕ
      pub index : ℕ
      pub ends : List End
      pub embeds : Embeds task lent h.fires
          (split (lists_in (next_step lent.elements form f h.plan)) last.branch
          (grown lent.elements form f last.branch (with_branches last.rest h.plan)))
          (h.values ++ elements) (h.indices ++ index ∷ []) ends
      pub seen : IsOver h.fires (h.values ++ elements) (h.indices ++ index ∷ [])
          (length h.plan.steps) last.branch
      pub spent : ends_in h.left ≡ ends_in ends + 1

    -- it is closed so
    abbrev pub BranchBy : Choice.Choice → Type 0
    BranchBy (choice.Answer disjunct) = ByAnswer disjunct
    BranchBy (choice.Line line) = ByLine line
    BranchBy (choice.Old step) = ByOld step
    BranchBy (choice.New form) = ByNew form
    BranchBy _ = ⊥

-- a plan with what is open
abbrev pub with_open : Open.Open → Drafted → Drafted
with_open (open_value.Goal goal) d = with_goal goal d
with_open (open_value.Branch node) d = with_branch node d

-- it is closed so
abbrev pub OpenBy : (task : Task) (lent : Context) (n : ℕ) (d : Drafted) (o : Open.Open)
    → Hope task lent n (with_open o d) → Choice.Choice → Type 0
OpenBy task lent n d (open_value.Goal goal) h way = GoalBy task lent n d goal h way
OpenBy task lent n d (open_value.Branch node) h way = BranchBy task lent n d node h way
