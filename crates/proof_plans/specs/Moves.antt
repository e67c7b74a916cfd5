-- What a search does to a plan. Variables below `start` are the elements of the context.
use Rattle.std.specs.Prelude.{ℕ, ◌+◌, ◌<◌, ◌≡◌, ◌≢◌, Bool, true, false, List, [], ◌∷◌, ◌++◌, map, length, replicate, slice_get, slice_index, get_or, Option, Some, None}
use Rattle.logic_core.specs.declared.form.Atom.{Atom}
use Rattle.logic_core.specs.declared.form.Form.{Form}
use Rattle.vernacular_tree.specs.Contexts.{Task, counted, parameters, atom_at}
use Rattle.proof_plans.specs.Runs.{Case}
use Rattle.proof_plans.specs.Plans.{Step, variables_of, Tie, Goal, Plan}

-- the lists of a step
abbrev pub lists_in : Step → List (List Atom)
lists_in step = map (map (atom_at (variables_of step))) step.form.disjuncts

-- goals for atoms, which a user has to have, seen from a branch
abbrev pub goals_for : Option ℕ → List Case → List ℕ → List Atom → List Goal
goals_for user branch variables atoms = map
    (λ atom. record { atom = atom_at variables atom; user = user; branch = branch }) atoms

-- the branches of a split, the first one with this number
abbrev pub branches_for : ℕ → List (List Atom) → List Case → List (List Case)
branches_for number [] branch = []
branches_for number (facts ∷ lists) branch =
    (record { number = number; facts = facts } ∷ branch) ∷ branches_for (number + 1) lists branch

-- the number of the next variable
abbrev pub next_variable : ℕ → Plan → ℕ
next_variable start plan = start + length plan.bound

-- further variables: some that are free, and new elements behind them
abbrev pub widened : ℕ → ℕ → ℕ → Plan → Plan
widened start free new plan = record plan {
  bound = plan.bound ++ counted (next_variable start plan) (free + new);
  fixed = plan.fixed ++ (replicate free false ++ replicate new true);
}

-- a further step
abbrev pub next_step : ℕ → ℕ → Form → Plan → Step
next_step start number form plan = record {
  number = number;
  form = form;
  base = next_variable start plan;
}

-- a further step, whose premises are goals seen from a branch
abbrev pub grown : ℕ → ℕ → Form → List Case → Plan → Plan
grown start number form branch plan =
    let step = next_step start number form plan in
    record (widened start form.universals form.existentials plan) {
      steps = plan.steps ++ step ∷ [];
      goals = plan.goals ++ goals_for (Some (length plan.steps)) branch (variables_of step) form.premises;
    }

-- a branch is closed by a disjunct of the goal, whose atoms are goals
abbrev pub answered : ℕ → Task → List Atom → List Case → Plan → Plan
answered start task atoms branch plan =
    record (widened start task.goal.existentials 0 plan) {
      closed = plan.closed + 1;
      goals = plan.goals ++ goals_for None branch
          (parameters task ++ counted (next_variable start plan) task.goal.existentials) atoms;
    }

-- a branch is split
abbrev pub split : List (List Atom) → List Case → Plan → Plan
split lists branch plan = record plan {
  branches = plan.branches ++ branches_for 0 lists branch;
  closed = plan.closed + 1;
}

-- more is known of where a step stands
abbrev pub tied : Tie → Plan → Plan
tied tie plan = record plan { ties = plan.ties ++ tie ∷ [] }

abbrev pub with_goals : List Goal → Plan → Plan
with_goals goals plan = record plan { goals = goals }

abbrev pub with_branches : List (List Case) → Plan → Plan
with_branches branches plan = record plan { branches = branches }

abbrev pub with_bound : List ℕ → Plan → Plan
with_bound bound plan = record plan { bound = bound }

-- values agree with what the variables are bound to
abbrev pub Agrees : ℕ → List ℕ → List ℕ → Type 0
Agrees start bound values = (i a : ℕ) → slice_get bound i ≡ Some a
    → slice_index values (start + i) ≡ slice_index values a

-- two new elements have two values, and none of them is one of the first elements
pub record Differ (start : ℕ) (fixed : List Bool) (values : List ℕ) : Type 0 where
  pub itself : (a : ℕ) → a < start → slice_index values a ≡ a
  pub new : (i : ℕ) → get_or fixed i false ≡ true → (a : ℕ) → a < start
      → slice_index values (start + i) ≢ a
  pub apart : (i j : ℕ) → get_or fixed i false ≡ true → get_or fixed j false ≡ true → i ≢ j
      → slice_index values (start + i) ≢ slice_index values (start + j)

-- the numbers of the cases of a branch, the innermost first
abbrev pub word_of : List Case → List ℕ
word_of branch = map (λ case. case.number) branch
