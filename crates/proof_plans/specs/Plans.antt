-- Plans: constraints on a proof that is not known. Elements are variables, told by number: those of
-- the context from which the proof begins stand for themselves, and each step has further ones for
-- the variables of its form.
use Rattle.std.specs.Prelude.{ℕ, ◌+◌, Bool, List, [], ◌∷◌, Option}
use Rattle.logic_core.specs.declared.form.Atom.{Atom}
use Rattle.logic_core.specs.declared.form.Form.{Form}
use Rattle.vernacular_tree.specs.Contexts.{counted}
use Rattle.proof_plans.specs.Runs.{Case}

-- a step: the number of its form, the form, and its first variable
pub record Step : Type 0 where
  pub number : ℕ
  pub form : Form
  pub base : ℕ

-- the variables of a form's variables
abbrev pub variables_of : Step → List ℕ
variables_of step = counted step.base (step.form.universals + step.form.existentials)

-- what is known of where steps stand
pub data Tie : Type 0 where
  -- a step comes before another one, and is seen from it
  before : (lower upper : ℕ) → Tie
  -- a step stands in a branch or in one to which that leads
  under : (step : ℕ) (branch : List Case) → Tie
  -- a step is seen from a branch
  over : (step : ℕ) (branch : List Case) → Tie

-- a fact that has to stand before a step, or where a branch is closed by a disjunct of the goal
pub record Goal : Type 0 where
  pub atom : Atom
  pub user : Option ℕ
  pub branch : List Case

-- a plan: what each variable is bound to (itself where it is free), which variables are new
-- elements, the steps, where they stand, the branches that are open, the number of branches that are
-- closed, and the goals that are open
pub record Plan : Type 0 where
  pub bound : List ℕ
  pub fixed : List Bool
  pub steps : List Step
  pub ties : List Tie
  pub branches : List (List Case)
  pub closed : ℕ
  pub goals : List Goal

-- the plan with which a search begins
abbrev pub first_plan : List Case → Plan
first_plan root = record {
  bound = [];
  fixed = [];
  steps = [];
  ties = [];
  branches = root ∷ [];
  closed = 0;
  goals = [];
}
