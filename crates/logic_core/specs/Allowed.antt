-- Which formulas and items may be in a problem: closed formulas that are not nested too deep. The
-- nesting is that of the value: the greatest number of levels that are open at one token of its
-- canonical text, where brackets, negations and quantifiers open levels.
use Rattle.std.specs.Prelude.{ℕ, ◌+◌, ◌≤◌, max, List, [], ◌∷◌, ◌++◌, Some, None, IsTrue}
use Rattle.std.specs.List.{AllByRecursion}
use Rattle.text_core.specs.Names.{Text}
use Rattle.text_core.specs.NameTexts.{is_upper_word}
use Rattle.text_core.specs.Lists.{IsAmong}
use Rattle.text_core.specs.declared.limits.TheConstants.{MOST_LEVELS}
use Rattle.logic_core.specs.declared.formula.Term.{Term}
use Rattle.logic_core.specs.declared.formula.Term.TheVariants.{Variable, Constant}
use Rattle.logic_core.specs.declared.formula.Formula.{Formula, True, False, Pred, Equal, Not', And', Or', Binary', ForAll', Exists', Row_of-Formula, end_of-Formula, more_of-Formula}
use Rattle.logic_core.specs.declared.problem.Fof.{Fof}
use Rattle.logic_core.specs.declared.problem.Item.{Item}
use Rattle.logic_core.specs.declared.problem.Item.TheVariants.{Fof as ItemFof, Include}

abbrev mutual
  -- the depth of a formula inside another one; a negated equation is an inequality
  pub depth : Formula → ℕ
  depth True = 0
  depth False = 0
  depth (Pred p ts) = 0
  depth (Equal t u) = 0
  depth (Not' _ (more_of-Formula (Equal t u) _)) = 0
  depth (Not' _ (more_of-Formula g _)) = depth g + 1
  depth (And' _ members) = greatest_depth members + 1
  depth (Or' _ members) = greatest_depth members + 1
  depth (Binary' op _ (more_of-Formula g _) _ (more_of-Formula h _)) = max (depth g) (depth h) + 1
  depth (ForAll' xs _ (more_of-Formula g _)) = depth g + 1
  depth (Exists' xs _ (more_of-Formula g _)) = depth g + 1

  pub greatest_depth : {n : _} → Row_of-Formula n → ℕ
  greatest_depth end_of-Formula = 0
  greatest_depth (more_of-Formula g rest) = max (depth g) (greatest_depth rest)

-- the nesting of a whole formula, which needs no brackets around itself
abbrev pub nesting : Formula → ℕ
nesting (And' _ members) = greatest_depth members
nesting (Or' _ members) = greatest_depth members
nesting (Binary' op _ (more_of-Formula g _) _ (more_of-Formula h _)) = max (depth g) (depth h)
nesting f = depth f

-- a variable of a term is bound, and is an upper word
abbrev pub TermIsBound : List Text → Term → Type 0
TermIsBound scope (Variable x) = IsAmong x scope × IsTrue (is_upper_word x)
TermIsBound scope (Constant c) = Unit {0}

-- a list has a member
abbrev pub HasOne : {X : Type 0} → List X → Type 0
HasOne [] = ⊥
HasOne (x ∷ xs) = Unit {0}

-- a quantifier binds one or more variables, each an upper word
abbrev pub AreVariables : List Text → Type 0
AreVariables xs = HasOne xs × AllByRecursion (λ x. IsTrue (is_upper_word x)) xs

-- the members are two or more
abbrev pub TwoOrMore : {n : _} → Row_of-Formula n → Type 0
TwoOrMore (more_of-Formula g (more_of-Formula h rest)) = Unit {0}
TwoOrMore _ = ⊥

abbrev mutual
  -- each variable is in scope where it is used, quantifiers bind one or more variables,
  -- conjunctions and disjunctions have two or more members, and variables are upper words
  pub IsBoundIn : List Text → Formula → Type 0
  IsBoundIn scope True = Unit {0}
  IsBoundIn scope False = Unit {0}
  IsBoundIn scope (Pred p ts) = AllByRecursion (TermIsBound scope) ts
  IsBoundIn scope (Equal t u) = TermIsBound scope t × TermIsBound scope u
  IsBoundIn scope (Not' _ (more_of-Formula g _)) = IsBoundIn scope g
  IsBoundIn scope (And' _ members) = TwoOrMore members × EachIsBoundIn scope members
  IsBoundIn scope (Or' _ members) = TwoOrMore members × EachIsBoundIn scope members
  IsBoundIn scope (Binary' op _ (more_of-Formula g _) _ (more_of-Formula h _)) = IsBoundIn scope g
      × IsBoundIn scope h
  IsBoundIn scope (ForAll' xs _ (more_of-Formula g _)) = AreVariables xs × IsBoundIn (xs ++ scope) g
  IsBoundIn scope (Exists' xs _ (more_of-Formula g _)) = AreVariables xs × IsBoundIn (xs ++ scope) g

  pub EachIsBoundIn : List Text → {n : _} → Row_of-Formula n → Type 0
  EachIsBoundIn scope end_of-Formula = Unit {0}
  EachIsBoundIn scope (more_of-Formula g rest) = IsBoundIn scope g × EachIsBoundIn scope rest

-- a formula may be in a problem: it is closed, and not nested too deep
pub record IsAllowed (f : Formula) : Type 0 where
  pub closed : IsBoundIn [] f
  pub shallow : nesting f ≤ MOST_LEVELS

abbrev pub FofIsAllowed : Fof → Type 0
FofIsAllowed fof = IsAllowed fof.formula

-- an item may be in a problem's text: its formula may, or its selection, if any, is not empty
abbrev pub ItemIsAllowed : Item → Type 0
ItemIsAllowed (ItemFof fof) = FofIsAllowed fof
ItemIsAllowed (Include file (Some names)) = HasOne names
ItemIsAllowed (Include file None) = Unit {0}
