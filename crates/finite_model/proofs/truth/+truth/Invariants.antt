use Rattle.std.specs.Prelude.{not}
use Rattle.std.specs.List.{AllByRecursion}
use Rattle.std.proofs.Common.{◌≡◌, ◌+◌, ℕ, ◌<◌, take, length, ◌∷◌}
use Rattle.logic_core.specs.Truth.{IsTrueIn, EveryValue}
use Rattle.finite_model.specs.Structures.{finite}
use Rattle.finite_model.specs.Decided.{Decides}
use Rattle.finite_model.specs.Weights.{weight, list_weight}
use Rattle.finite_model.proofs.truth.+truth.Given as goal

abbrev pub decreases-has_member : goal.decreases-has_member
decreases-has_member l = list_weight l.formulas.now

abbrev pub decreases-has_choice : goal.decreases-has_choice
decreases-has_choice l = weight l.formula.now + length l.variables.now + 1

abbrev pub decreases-both_true : goal.decreases-both_true
decreases-both_true l = weight l.left.now + weight l.right.now + 1

abbrev pub decreases-is_true : goal.decreases-is_true
decreases-is_true l = weight l.formula.now

-- the first formulas are decided the other way
abbrev pub invariant-has_member-loop-formula : goal.invariant-has_member-loop-formula
invariant-has_member-loop-formula l = record {
  values : l.values ≡ l.fn.values;
  none : AllByRecursion (λ g. Decides (not l.wanted) (IsTrueIn (finite l.lookup) g l.fn.values)) (take l.formula-index l.formulas);
}

-- so is the formula at the first elements
abbrev pub invariant-has_choice-loop-element : goal.invariant-has_choice-loop-element
invariant-has_choice-loop-element l = record {
  values : l.values ≡ l.fn.values;
  none : (a : ℕ) → a < l.element →
      EveryValue (finite l.lookup) l.rest (λ e. Decides (not l.wanted) (IsTrueIn (finite l.lookup) l.formula e)) ((l.first, a) ∷ l.fn.values);
}
