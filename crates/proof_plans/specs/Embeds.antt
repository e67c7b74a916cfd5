-- How a plan is a part of a proof: each variable has an element, each step is an application, and
-- each open branch is one that an end closes.
use Rattle.std.specs.Prelude.{ℕ, ◌+◌, ◌<◌, ◌≤◌, ◌≡◌, ◌≢◌, true, List, [], ◌∷◌, map, length, slice_get, slice_index, get_or, Option, Some, None, false}
use Rattle.std.specs.List.{AllByRecursion}
use Rattle.text_core.specs.Lists.{SomeOf}
use Rattle.vernacular_tree.specs.Carries.{image, HasElements}
use Rattle.vernacular_tree.specs.Contexts.{Task}
use Rattle.vernacular_tree.specs.declared.context.Context.{Context}
use Rattle.vernacular_tree.specs.declared.tree.End.{End}
use Rattle.proof_plans.specs.Runs.{Case, Above, Fire, elements_of, Has, IsNovel, IsClosed, end_count}
use Rattle.proof_plans.specs.Plans.{Step, variables_of, Tie, before, under, over, Goal, Plan}

-- a branch at the elements of its variables
abbrev pub case_image : List ℕ → Case → Case
case_image values case = record { number = case.number; facts = map (image values) case.facts }

abbrev pub branch_image : List ℕ → List Case → List Case
branch_image values branch = map (case_image values) branch

-- the variables of a branch are there
abbrev pub HasVariables : ℕ → List Case → Type 0
HasVariables count branch =
    AllByRecursion (λ case. AllByRecursion (HasElements count) case.facts) branch

-- a variable is a new element of a step
pub record IsNewOf (variable : ℕ) (step : Step) : Type 0 where
  pub from : step.base + step.form.universals ≤ variable
  pub below : variable < step.base + step.form.universals + step.form.existentials

-- a step is the application with this number
pub record StepIs (fires : List Fire) (values : List ℕ) (step : Step) (index : ℕ) : Type 0 where
  pub fire : Fire
  pub is : slice_get fires index ≡ Some fire
  pub number_is : step.number ≡ fire.number
  pub form_is : step.form ≡ fire.form
  pub elements_are : map (slice_index values) (variables_of step) ≡ elements_of fire
  pub within : step.base + step.form.universals + step.form.existentials ≤ length values

abbrev pub StepsAre : List Fire → List ℕ → List Step → List ℕ → Type 0
StepsAre fires values [] [] = Unit {0}
StepsAre fires values (step ∷ steps) (index ∷ indices) =
    StepIs fires values step index × StepsAre fires values steps indices
StepsAre fires values _ _ = ⊥

-- no number stands twice
abbrev pub AreApart : List ℕ → Type 0
AreApart [] = Unit {0}
AreApart (index ∷ indices) = AllByRecursion (λ other. index ≢ other) indices × AreApart indices

-- the one application comes before the other one, and is seen from it
pub record IsBefore (fires : List Fire) (indices : List ℕ) (low high : ℕ) : Type 0 where
  pub lower : ℕ
  pub upper : ℕ
  pub lower_is : slice_get indices low ≡ Some lower
  pub upper_is : slice_get indices high ≡ Some upper
  pub ordered : lower < upper
  pub fire : Fire
  pub later : Fire
  pub fire_is : slice_get fires lower ≡ Some fire
  pub later_is : slice_get fires upper ≡ Some later
  pub above : Above fire.branch later.branch

-- a step is an application that stands so to a branch of variables
pub record Stands (P : List Case → List Case → Type 0) (fires : List Fire) (values indices : List ℕ)
    (step : ℕ) (branch : List Case) : Type 0 where
  pub index : ℕ
  pub index_is : slice_get indices step ≡ Some index
  pub fire : Fire
  pub fire_is : slice_get fires index ≡ Some fire
  pub within : HasVariables (length values) branch
  pub stands : P (branch_image values branch) fire.branch

abbrev pub IsUnder : List Fire → List ℕ → List ℕ → ℕ → List Case → Type 0
IsUnder fires values indices step branch = Stands Above fires values indices step branch

abbrev pub IsOver : List Fire → List ℕ → List ℕ → ℕ → List Case → Type 0
IsOver fires values indices step branch =
    Stands (λ here own. Above own here) fires values indices step branch

abbrev pub TieHolds : List Fire → List ℕ → List ℕ → Tie → Type 0
TieHolds fires values indices (before lower upper) = IsBefore fires indices lower upper
TieHolds fires values indices (under step branch) = IsUnder fires values indices step branch
TieHolds fires values indices (over step branch) = IsOver fires values indices step branch

-- the number before which a goal has to stand, and the branch from which it is seen: those of its
-- user, or the whole proof and the goal's branch
abbrev pub UserIs : List Fire → List ℕ → List ℕ → Goal → ℕ → List Case → Type 0
UserIs fires values indices goal limit branch = user_is goal.user
  where
    user_is : Option ℕ → Type 0
    user_is (Some user) = (slice_get indices user ≡ Some limit)
        × ((fire : Fire) × (slice_get fires limit ≡ Some fire) × (branch ≡ fire.branch))
    user_is None = (limit ≡ length fires) × (branch ≡ branch_image values goal.branch)

-- a goal stands
pub record GoalIs (fires : List Fire) (values indices : List ℕ) (goal : Goal) : Type 0 where
  pub limit : ℕ
  pub branch : List Case
  pub user : UserIs fires values indices goal limit branch
  pub atom_within : HasElements (length values) goal.atom
  pub branch_within : HasVariables (length values) goal.branch
  pub above : Above branch (branch_image values goal.branch)
  pub has : Has fires (image values goal.atom) limit branch

module _ (task : Task) (context : Context) (fires : List Fire) where
  -- open branches are closed by these ends, and the case of each says something new
  abbrev pub BranchesAre : List ℕ → List (List Case) → List End → Type 0
  BranchesAre values [] [] = Unit {0}
  BranchesAre values (branch ∷ branches) (end ∷ ends) =
      HasVariables (length values) branch
      × IsClosed task context fires end (branch_image values branch)
      × IsNovel fires (branch_image values branch)
      × BranchesAre values branches ends
  BranchesAre values _ _ = ⊥

  -- a plan is a part of a proof
  pub record Embeds (plan : Plan) (values indices : List ℕ) (left : List End) : Type 0 where
    pub length_is : length values ≡ context.elements + length plan.bound
    pub flags : length plan.fixed ≡ length plan.bound
    pub itself : (a : ℕ) → a < context.elements → slice_index values a ≡ a
    pub bound_within : AllByRecursion (λ a. a < length values) plan.bound
    pub agrees : (i a : ℕ) → slice_get plan.bound i ≡ Some a
        → slice_index values (context.elements + i) ≡ slice_index values a
    pub new : (i : ℕ) → get_or plan.fixed i false ≡ true
        → SomeOf (IsNewOf (context.elements + i)) plan.steps
    pub steps : StepsAre fires values plan.steps indices
    pub apart : AreApart indices
    pub branches : BranchesAre values plan.branches left
    pub ties : AllByRecursion (TieHolds fires values indices) plan.ties
    pub goals : AllByRecursion (GoalIs fires values indices) plan.goals

-- the number of ends
abbrev pub ends_in : List End → ℕ
ends_in [] = 0
ends_in (end ∷ ends) = end_count end + ends_in ends
