-- The ways that each part of a scene and of a plan gives: for a goal the facts with the symbol and
-- the sign of its atom.
use Rattle.std.specs.Prelude.{ℕ, ◌≡◌, ◌≢◌, List, [], ◌∷◌, length, slice_get, Some}
use Rattle.logic_core.specs.declared.form.Atom.{Atom}
use Rattle.logic_core.specs.declared.form.Form.{Form}
use Rattle.vernacular_tree.specs.Contexts.{Task}
use Rattle.vernacular_tree.specs.declared.context.Context.{Context}
use Rattle.vernacular_tree.specs.declared.context.Line.{Line}
use Rattle.vernacular_tree.specs.declared.context.Line.TheVariants.{Facts}
use Rattle.proof_plans.specs.declared.choice.Choice as Choice
use Rattle.proof_plans.specs.declared.choice.Choice.TheVariants as choice
use Rattle.proof_plans.specs.declared.draft.ListOf as ListOf
use Rattle.proof_plans.specs.declared.draft.Node.{Node}
use Rattle.proof_plans.specs.declared.draft.PlanStep.{PlanStep}
use Rattle.proof_plans.specs.Choices.{numbered, Numbered}
use Rattle.proof_plans.specs.Drafts.{AreListed, IsReached}

-- a way of a kind, by a fact with this number
pub record IsByFact (atom fact : Atom) (kind : Choice.Choice) (number : ℕ) (way : Choice.Choice) : Type 0 where
  pub way_is : way ≡ numbered kind number
  pub positive_is : fact.positive ≡ atom.positive
  pub symbol_is : fact.symbol ≡ atom.symbol

-- a way of a kind, by the fact of a list that has this number
pub record IsByNumber (atom : Atom) (facts : List Atom) (kind : Choice.Choice) (number : ℕ)
    (way : Choice.Choice) : Type 0 where
  pub fact : Atom
  pub fact_is : slice_get facts number ≡ Some fact
  pub by : IsByFact atom fact kind number way

-- a way of a kind, by a fact of a list
abbrev pub IsByFacts : Atom → List Atom → Choice.Choice → Choice.Choice → Type 0
IsByFacts atom facts kind way = Numbered (IsByNumber atom facts kind) way

-- by a fact of a line
pub record IsByLine (atom : Atom) (given : Line) (line : ℕ) (way : Choice.Choice) : Type 0 where
  pub facts : List Atom
  pub line_is : given ≡ Facts facts
  pub by : IsByFacts atom facts (choice.Given line 0) way

-- by a fact of the line with this number
pub record IsByGiven (atom : Atom) (lines : List Line) (line : ℕ) (way : Choice.Choice) : Type 0 where
  pub given : Line
  pub given_is : slice_get lines line ≡ Some given
  pub by : IsByLine atom given line way

-- by a fact of a list that is kept so
pub record IsByList (task : Task) (lent : Context) (atom : Atom) (of : ListOf.ListOf)
    (kind way : Choice.Choice) : Type 0 where
  pub atoms : List Atom
  pub variables : List ℕ
  pub listed : AreListed task lent of atoms variables
  pub by : IsByFacts atom atoms kind way

-- by a fact of the case with which the branch begins that is so many splits above
pub record IsByCase (task : Task) (lent : Context) (atom : Atom) (nodes : List Node) (from count : ℕ)
    (way : Choice.Choice) : Type 0 where
  pub node : ℕ
  pub kept : Node
  pub kept_is : slice_get nodes node ≡ Some kept
  pub inner : node ≢ 0
  pub reached : IsReached nodes count from node
  pub by : IsByList task lent atom kept.of (choice.Case node 0) way

-- by a fact of a form that gives one list
pub record IsByOne (atom : Atom) (forms : List Form) (form : ℕ) (kind way : Choice.Choice) : Type 0 where
  pub f : Form
  pub f_is : slice_get forms form ≡ Some f
  pub facts : List Atom
  pub one : f.disjuncts ≡ facts ∷ []
  pub by : IsByFacts atom facts kind way

-- by a fact of the step with this number
pub record IsByOld (atom : Atom) (forms : List Form) (steps : List PlanStep) (step : ℕ)
    (way : Choice.Choice) : Type 0 where
  pub kept : PlanStep
  pub kept_is : slice_get steps step ≡ Some kept
  pub by : IsByOne atom forms kept.form (choice.Step step 0) way

-- by a fact of a new step by the form with this number
abbrev pub IsByNew : Atom → List Form → ℕ → Choice.Choice → Type 0
IsByNew atom forms form way = IsByOne atom forms form (choice.Form form 0) way

-- a split by the line with this number
pub record IsSplitByLine (lines : List Line) (line : ℕ) (way : Choice.Choice) : Type 0 where
  pub given : Line
  pub given_is : slice_get lines line ≡ Some given
  pub no_facts : (facts : List Atom) → given ≢ Facts facts
  pub way_is : way ≡ choice.Line line

-- a form gives no line of facts
pub record IsSplitting (forms : List Form) (form : ℕ) : Type 0 where
  pub f : Form
  pub f_is : slice_get forms form ≡ Some f
  pub several : length f.disjuncts ≢ 1

-- a split by a new step by the form with this number
abbrev pub IsSplitByNew : List Form → ℕ → Choice.Choice → Type 0
IsSplitByNew forms form way = IsSplitting forms form × (way ≡ choice.New form)

-- a split by the step with this number
pub record IsSplitByOld (forms : List Form) (steps : List PlanStep) (step : ℕ) (way : Choice.Choice) : Type 0 where
  pub kept : PlanStep
  pub kept_is : slice_get steps step ≡ Some kept
  pub splitting : IsSplitting forms kept.form
  pub way_is : way ≡ choice.Old step
