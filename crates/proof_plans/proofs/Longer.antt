-- A plan that is a part of a proof stays one where there are more variables behind.
use Rattle.std.proofs.Common.{◌≡◌, ℕ, ◌+◌, ◌≤◌, List, [], ◌∷◌, ◌++◌, map, length, Some, None, Option, refl, ap, sym, ◌∙◌, subst, arith, length-append}
use Rattle.std.specs.List.{AllByRecursion}
use Rattle.logic_core.specs.declared.form.Atom.{Atom}
use Rattle.vernacular_tree.specs.Contexts.{Task}
use Rattle.vernacular_tree.specs.Carries.{image, HasElements}
use Rattle.vernacular_tree.specs.declared.context.Context.{Context}
use Rattle.vernacular_tree.specs.declared.tree.End.{End}
use Rattle.proof_plans.specs.Runs.{Case, Above, Fire, Has, IsNovel, IsClosed}
use Rattle.proof_plans.specs.Plans.{Step, variables_of, Tie, before, under, over, Goal}
use Rattle.proof_plans.specs.Embeds.{case_image, branch_image, HasVariables, StepIs, StepsAre, IsBefore, Stands, TieHolds, UserIs, GoalIs, BranchesAre}
use Rattle.text_core.proofs.Laws.{each_map, get_front}
use Rattle.vernacular_tree.proofs.Numbers.{counted_below, old_read}
use Rattle.vernacular_tree.proofs.Images.{keeps_more, elements_kept, image_same}

module _ (values more : List ℕ) where
  -- variables that are there are still there
  pub variables_kept : (branch : List Case) → HasVariables (length values) branch → HasVariables (length (values ++ more)) branch
  variables_kept branch h = each_map {Q = λ case. AllByRecursion (HasElements (length (values ++ more))) case.facts}
      (λ case has. each_map (elements_kept values (values ++ more) (keeps_more values more)) case.facts has) branch h

  facts_kept : (facts : List Atom) → AllByRecursion (HasElements (length values)) facts → map (image (values ++ more)) facts ≡ map (image values) facts
  facts_kept [] h = refl
  facts_kept (f ∷ fs) h = let first = image_same values (values ++ more) (keeps_more values more) f h.0 in let rest = facts_kept fs h.1 in cc

  -- a branch has the same image
  pub branch_kept : (branch : List Case) → HasVariables (length values) branch → branch_image (values ++ more) branch ≡ branch_image values branch
  branch_kept [] h = refl
  branch_kept (case ∷ branch) h =
      let first : case_image (values ++ more) case ≡ case_image values case = ap (λ (fs : List Atom). record { number = case.number; facts = fs }) (facts_kept case.facts h.0) in
      let rest = branch_kept branch h.1 in cc

  module _ (fires : List Fire) where
    -- a step is the same application
    pub step_kept : (step : Step) (index : ℕ) → StepIs fires values step index → StepIs fires (values ++ more) step index
    step_kept step index h =
        let long = length-append values more in
        let within : step.base + step.form.universals + step.form.existentials ≤ length values = h.within in
        record {
          fire = h.fire;
          is = h.is;
          number_is = h.number_is;
          form_is = h.form_is;
          elements_are = old_read values more (variables_of step) (counted_below step.base (step.form.universals + step.form.existentials) (length values) (omega arith)) ∙ h.elements_are;
          within = omega arith;
        }

    pub steps_kept : (steps : List Step) (indices : List ℕ) → StepsAre fires values steps indices → StepsAre fires (values ++ more) steps indices
    steps_kept [] [] h = tt
    steps_kept [] (i ∷ is) h = absurd h
    steps_kept (s ∷ ss) [] h = absurd h
    steps_kept (s ∷ ss) (i ∷ is) h = (step_kept s i h.0, steps_kept ss is h.1)

    module _ (indices behind : List ℕ) where
      -- a user has the same number and branch
      user_kept : (user : Option ℕ) (goal_branch : List Case) (limit : ℕ) (branch : List Case) → HasVariables (length values) goal_branch
          → (atom : Atom) → UserIs fires values indices (record { atom = atom; user = user; branch = goal_branch }) limit branch
          → UserIs fires (values ++ more) (indices ++ behind) (record { atom = atom; user = user; branch = goal_branch }) limit branch
      user_kept (Some user) goal_branch limit branch within atom h = (get_front indices behind user limit h.0, h.1)
      user_kept None goal_branch limit branch within atom h = (h.0, h.1 ∙ sym (branch_kept goal_branch within))

      -- a goal still stands
      pub goal_kept : (goal : Goal) → GoalIs fires values indices goal → GoalIs fires (values ++ more) (indices ++ behind) goal
      goal_kept goal h = record {
        limit = h.limit;
        branch = h.branch;
        user = user_kept goal.user goal.branch h.limit h.branch h.branch_within goal.atom h.user;
        atom_within = elements_kept values (values ++ more) (keeps_more values more) goal.atom h.atom_within;
        branch_within = variables_kept goal.branch h.branch_within;
        above = subst (Above h.branch) (sym (branch_kept goal.branch h.branch_within)) h.above;
        has = subst (λ (f : Atom). Has fires f h.limit h.branch) (sym (image_same values (values ++ more) (keeps_more values more) goal.atom h.atom_within)) h.has;
      }

      -- what is known of where steps stand still holds
      before_kept : (low high : ℕ) → IsBefore fires indices low high → IsBefore fires (indices ++ behind) low high
      before_kept low high h = record {
        lower = h.lower;
        upper = h.upper;
        lower_is = get_front indices behind low h.lower h.lower_is;
        upper_is = get_front indices behind high h.upper h.upper_is;
        ordered = h.ordered;
        fire = h.fire;
        later = h.later;
        fire_is = h.fire_is;
        later_is = h.later_is;
        above = h.above;
      }

      stands_kept : (P : List Case → List Case → Type 0) (step : ℕ) (branch : List Case) → Stands P fires values indices step branch → Stands P fires (values ++ more) (indices ++ behind) step branch
      stands_kept P step branch h = record {
        index = h.index;
        index_is = get_front indices behind step h.index h.index_is;
        fire = h.fire;
        fire_is = h.fire_is;
        within = variables_kept branch h.within;
        stands = subst (λ (b : List Case). P b h.fire.branch) (sym (branch_kept branch h.within)) h.stands;
      }

      pub tie_kept : (tie : Tie) → TieHolds fires values indices tie → TieHolds fires (values ++ more) (indices ++ behind) tie
      tie_kept (before low high) h = before_kept low high h
      tie_kept (under step branch) h = stands_kept Above step branch h
      tie_kept (over step branch) h = stands_kept (λ b own. Above own b) step branch h

    -- open branches are closed by the same ends
    pub branches_kept : (task : Task) (context : Context) (branches : List (List Case)) (ends : List End) → BranchesAre task context fires values branches ends
        → BranchesAre task context fires (values ++ more) branches ends
    branches_kept task context [] [] h = tt
    branches_kept task context [] (end ∷ ends) h = absurd h
    branches_kept task context (b ∷ bs) [] h = absurd h
    branches_kept task context (b ∷ bs) (end ∷ ends) h =
        (variables_kept b h.0, subst (IsClosed task context fires end) (sym (branch_kept b h.0)) h.1, subst (IsNovel fires) (sym (branch_kept b h.0)) h.2, branches_kept task context bs ends h.3)
