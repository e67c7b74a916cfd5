-- What a plan that is kept is, when a goal of it stands in some way.
use Rattle.std.specs.Prelude.{ℕ, ◌+◌, ◌≡◌, List, ◌++◌, length, slice_get, Option, Some, None}
use Rattle.std.specs.List.{AllByRecursion}
use Rattle.logic_core.specs.declared.form.Form.{Form}
use Rattle.vernacular_tree.specs.Contexts.{Task}
use Rattle.vernacular_tree.specs.Tasks.{IsTask}
use Rattle.vernacular_tree.specs.Witnessed.{IsContext}
use Rattle.vernacular_tree.specs.declared.context.Context.{Context}
use Rattle.proof_plans.specs.declared.draft.PlanStep.{PlanStep}
use Rattle.proof_plans.specs.declared.draft.Node.{Node}
use Rattle.proof_plans.specs.declared.draft.ListOf as ListOf
use Rattle.proof_plans.specs.declared.draft.ListOf.TheVariants as list
use Rattle.proof_plans.specs.declared.draft.PlanGoal.{PlanGoal}
use Rattle.proof_plans.specs.declared.draft.PlanTie.TheVariants as tie
use Rattle.proof_plans.specs.declared.draft.Pair.{Pair}
use Rattle.proof_plans.specs.declared.choice.Choice as Choice
use Rattle.proof_plans.specs.declared.choice.Choice.TheVariants as choice
use Rattle.proof_plans.specs.declared.scene.Scene.{Scene}
use Rattle.proof_plans.specs.Plans.{Goal}
use Rattle.proof_plans.specs.Drafts.{Drafted, IsGoal, grown_draft, with_tie}
use Rattle.proof_plans.specs.Hopes.{PairHolds, FactIs}
use Rattle.proof_plans.specs.Scenes.{IsScene}

-- a draft with more pairs
abbrev pub with_pairs : List Pair → Drafted → Drafted
with_pairs pairs d = record d { pairs = d.pairs ++ pairs }

-- the user of a goal, if it is a step, stands in a branch or in one to which that leads
abbrev pub tied_under : Option ℕ → ℕ → Drafted → Drafted
tied_under (Some step) node d = with_tie (tie.Under step node) d
tied_under None node d = d

-- a step comes before the user of a goal, if that is a step
abbrev pub tied_before : ℕ → Option ℕ → Drafted → Drafted
tied_before step (Some upper) d = with_tie (tie.Before step upper) d
tied_before step None d = d

-- a step is seen from the branch of a goal, and comes before the goal's user, if that is a step
abbrev pub tied_step : ℕ → PlanGoal → Drafted → Drafted
tied_step step g d = tied_before step g.user (with_tie (tie.Over step g.node) d)

-- pairs of variables that stand for one element wherever a goal stands for the same fact as the one
-- with this number of a list
abbrev pub ArePairs : Scene → PlanGoal → ListOf.ListOf → ℕ → List Pair → Type 0
ArePairs scene g of number pairs = (constants : ℕ) (task : Task) (lent : Context) (n : ℕ) (d : Drafted)
    (nodes : List Node) (goal : Goal) (values : List ℕ) → IsTask constants task → IsContext task lent
    → IsScene task lent scene → IsGoal task lent nodes g goal → FactIs task lent n d values goal of number
    → AllByRecursion (PairHolds values) pairs

-- the same fact as one of a list: pairs are added to a draft
pub record IsPaired (scene : Scene) (g : PlanGoal) (of : ListOf.ListOf) (number : ℕ)
    (old new : Drafted) : Type 0 where
  pub pairs : List Pair
  pub are : ArePairs scene g of number pairs
  pub new_is : new ≡ with_pairs pairs old

-- a goal stands by a fact of a case
pub record IsCased (scene : Scene) (g : PlanGoal) (node number : ℕ) (old new : Drafted) : Type 0 where
  pub kept : Node
  pub kept_is : slice_get old.nodes node ≡ Some kept
  pub paired : IsPaired scene g kept.of number (tied_under g.user node old) new

-- a goal stands by a fact of a step
pub record IsStepped (scene : Scene) (g : PlanGoal) (step number : ℕ) (old new : Drafted) : Type 0 where
  pub kept : PlanStep
  pub kept_is : slice_get old.steps step ≡ Some kept
  pub paired : IsPaired scene g (list.Disjunct kept.form kept.base 0) number (tied_step step g old) new

-- a goal stands by a fact of a new step
pub record IsFormed (scene : Scene) (g : PlanGoal) (form number : ℕ) (old new : Drafted) : Type 0 where
  pub f : Form
  pub f_is : slice_get scene.forms.now form ≡ Some f
  pub paired : IsPaired scene g (list.Disjunct form (old.start + length old.bound) 0) number
      (tied_step (length old.steps) g (grown_draft form f g.node old)) new

-- a goal stands in this way
abbrev pub IsTaken : Scene → PlanGoal → Choice.Choice → Drafted → Drafted → Type 0
IsTaken scene g (choice.Given line number) old new = IsPaired scene g (list.Line line) number old new
IsTaken scene g (choice.Case node number) old new = IsCased scene g node number old new
IsTaken scene g (choice.Step step number) old new = IsStepped scene g step number old new
IsTaken scene g (choice.Form form number) old new = IsFormed scene g form number old new
IsTaken scene g _ old new = ⊥
