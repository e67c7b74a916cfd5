-- Items whose names are texts of names, as those of all values in code are.
use Rattle.std.specs.Prelude.{List, Option, Some, None}
use Rattle.std.specs.List.{AllByRecursion}
use Rattle.text_core.specs.Names.{Text}
use Rattle.text_core.specs.NameTexts.{IsNameText}
use Rattle.logic_core.specs.declared.formula.Term.{Term}
use Rattle.logic_core.specs.declared.formula.Term.TheVariants.{Variable, Constant}
use Rattle.logic_core.specs.declared.formula.Formula.{Formula, True, False, Pred, Equal, Not', And', Or', Binary', ForAll', Exists', Row_of-Formula, end_of-Formula, more_of-Formula}
use Rattle.logic_core.specs.declared.problem.Item.{Item}
use Rattle.logic_core.specs.declared.problem.Item.TheVariants.{Fof as ItemFof, Include}

-- a constant has a name
abbrev pub TermIsNamed : Term → Type 0
TermIsNamed (Variable x) = Unit {0}
TermIsNamed (Constant c) = IsNameText c

abbrev mutual
  -- each predicate and constant has a name
  pub IsNamed : Formula → Type 0
  IsNamed True = Unit {0}
  IsNamed False = Unit {0}
  IsNamed (Pred p ts) = IsNameText p × AllByRecursion TermIsNamed ts
  IsNamed (Equal t u) = TermIsNamed t × TermIsNamed u
  IsNamed (Not' _ (more_of-Formula g _)) = IsNamed g
  IsNamed (And' _ members) = EachIsNamed members
  IsNamed (Or' _ members) = EachIsNamed members
  IsNamed (Binary' op _ (more_of-Formula g _) _ (more_of-Formula h _)) = IsNamed g × IsNamed h
  IsNamed (ForAll' xs _ (more_of-Formula g _)) = IsNamed g
  IsNamed (Exists' xs _ (more_of-Formula g _)) = IsNamed g

  -- so has each member of a row
  pub EachIsNamed : {n : _} → Row_of-Formula n → Type 0
  EachIsNamed end_of-Formula = Unit {0}
  EachIsNamed (more_of-Formula g rest) = IsNamed g × EachIsNamed rest

-- the names of a selection
abbrev pub SelectionIsNamed : Option (List Text) → Type 0
SelectionIsNamed None = Unit {0}
SelectionIsNamed (Some names) = AllByRecursion IsNameText names

-- an item has names
abbrev pub ItemIsNamed : Item → Type 0
ItemIsNamed (ItemFof fof) = IsNameText fof.name × IsNamed fof.formula
ItemIsNamed (Include file only) = IsNameText file × SelectionIsNamed only
