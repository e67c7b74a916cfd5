-- How much there is to look at in a formula: what a recursion over it goes down by.
use Rattle.std.specs.Prelude.{ℕ, ◌+◌, List, [], ◌∷◌, length}
use Rattle.logic_core.specs.declared.formula.Formula.{Formula, True, False, Pred, Equal, Not', And', Or', Binary', ForAll', Exists', Row_of-Formula, end_of-Formula, more_of-Formula}

abbrev mutual
  pub weight : Formula → ℕ
  weight True = 0
  weight False = 0
  weight (Pred p ts) = 0
  weight (Equal t u) = 0
  weight (Not' _ (more_of-Formula g _)) = weight g + 1
  weight (And' _ members) = row_weight members + 1
  weight (Or' _ members) = row_weight members + 1
  weight (Binary' op _ (more_of-Formula g _) _ (more_of-Formula h _)) = weight g + weight h + 2
  weight (ForAll' xs _ (more_of-Formula g _)) = weight g + length xs + 2
  weight (Exists' xs _ (more_of-Formula g _)) = weight g + length xs + 2

  pub row_weight : {n : _} → Row_of-Formula n → ℕ
  row_weight end_of-Formula = 0
  row_weight (more_of-Formula g rest) = weight g + row_weight rest + 1

-- the weight of formulas in a list
abbrev pub list_weight : List Formula → ℕ
list_weight [] = 0
list_weight (g ∷ gs) = weight g + list_weight gs + 1
