-- A problem with a countermodel does not follow.
use Rattle.std.specs.Prelude.{◌≡◌, List, [], ◌∷◌}
use Rattle.std.specs.List.{AllByRecursion}
use Rattle.std.proofs.Common.{inl, inr, subst}
use Rattle.text_core.specs.Lists.{SomeOf}
use Rattle.logic_core.specs.Truth.{Structure, IsTrueIn}
use Rattle.logic_core.specs.Problems.{Follows, IfPremise, IfConjecture}
use Rattle.logic_core.specs.declared.problem.Role.{Role}
use Rattle.logic_core.specs.declared.problem.Role.TheVariants.{Conjecture}
use Rattle.logic_core.specs.declared.problem.Fof.{Fof}
use Rattle.finite_model.specs.Countermodels.{Wanted, Suits}

-- what is as it is wanted is true where it is a premise
wanted_premise : (role : Role) (P : Type 0) → Wanted role P → IfPremise role P
wanted_premise Conjecture P w = tt
wanted_premise _ P w = w

-- and is not where it is a conjecture
wanted_conjecture : (role : Role) (P : Type 0) → Wanted role P → IfConjecture role P → ⊥
wanted_conjecture Conjecture P w c = w c
wanted_conjecture _ P w c = c

module _ (s : Structure) where
  premises_true : (problem : List Fof) → AllByRecursion (Suits s) problem →
      AllByRecursion (λ (fof : Fof). IfPremise fof.role (IsTrueIn s fof.formula [])) problem
  premises_true [] all = tt
  premises_true (fof ∷ problem) all = (wanted_premise fof.role (IsTrueIn s fof.formula []) all.0, premises_true problem all.1)

  no_conjecture : (problem : List Fof) → AllByRecursion (Suits s) problem →
      SomeOf (λ (fof : Fof). IfConjecture fof.role (IsTrueIn s fof.formula [])) problem → ⊥
  no_conjecture [] all some = some
  no_conjecture (fof ∷ problem) all (inl here) = wanted_conjecture fof.role (IsTrueIn s fof.formula []) all.0 here
  no_conjecture (fof ∷ problem) all (inr later) = no_conjecture problem all.1 later

  -- where each formula is as it is wanted, the conjecture does not follow
  pub suits_refute : (problem : List Fof) → AllByRecursion (Suits s) problem → Follows s problem → ⊥
  suits_refute problem all follows = no_conjecture problem all (follows (premises_true problem all))

-- what follows in one structure follows in an equal one
pub follows_same : (s t : Structure) (problem : List Fof) → s ≡ t → Follows s problem → Follows t problem
follows_same s t problem e follows = subst (λ u. Follows u problem) e follows
