-- Which formulas are coherent: the shape of each node has to fit the roles that its parent gives
-- it. Nodes are numbered in preorder from 0; members and sides go from left to right, and terms are
-- no nodes. Here are, for each role, the nodes of a formula that offend when it has that role,
-- numbered from the formula as node 0.
use Rattle.std.specs.Prelude.{ℕ, ◌+◌, ◌≤◌, ◌≡◌, Bool, true, false, ◌&&◌, if◌then◌else◌, List, [], ◌∷◌, ◌++◌, map}
use Rattle.std.specs.List.{AllByRecursion}
use Rattle.text_core.specs.Lists.{IsAmong}
use Rattle.logic_core.specs.declared.formula.Op.TheVariants.{Implies, Implied, Iff}
use Rattle.logic_core.specs.declared.formula.Formula.{Formula, True, False, Pred, Equal, Not', And', Or', Binary', ForAll', Exists', Row_of-Formula, end_of-Formula, more_of-Formula}

-- the number of nodes
abbrev mutual
  pub nodes : Formula → ℕ
  nodes True = 1
  nodes False = 1
  nodes (Pred p ts) = 1
  nodes (Equal t u) = 1
  nodes (Not' _ (more_of-Formula g _)) = 1 + nodes g
  nodes (And' _ members) = 1 + nodes_of members
  nodes (Or' _ members) = 1 + nodes_of members
  nodes (Binary' op _ (more_of-Formula g _) _ (more_of-Formula h _)) = 1 + nodes g + nodes h
  nodes (ForAll' xs _ (more_of-Formula g _)) = 1 + nodes g
  nodes (Exists' xs _ (more_of-Formula g _)) = 1 + nodes g

  pub nodes_of : {n : _} → Row_of-Formula n → ℕ
  nodes_of end_of-Formula = 0
  nodes_of (more_of-Formula g rest) = nodes g + nodes_of rest

abbrev pub is_atom : Formula → Bool
is_atom (Pred p ts) = true
is_atom (Equal t u) = true
is_atom _ = false

-- truth, an atom, a negated atom, or a conjunction of plain members
abbrev mutual
  pub is_plain : Formula → Bool
  is_plain True = true
  is_plain (Pred p ts) = true
  is_plain (Equal t u) = true
  is_plain (Not' _ (more_of-Formula g _)) = is_atom g
  is_plain (And' _ members) = are_plain members
  is_plain _ = false

  pub are_plain : {n : _} → Row_of-Formula n → Bool
  are_plain end_of-Formula = true
  are_plain (more_of-Formula g rest) = is_plain g && are_plain rest

-- the nodes of a part, as nodes of the whole in which the part is node `at`
abbrev pub placed_at : ℕ → List ℕ → List ℕ
placed_at at part = map (λ node. at + node) part

-- the node itself
abbrev pub itself : List ℕ
itself = 0 ∷ []

-- a negation fits where it negates an atom
abbrev pub unless_atom : Formula → List ℕ
unless_atom g = if is_atom g then [] else itself

abbrev mutual
  -- as a conjunction: truth, an atom and a negated atom fit, and the members of a conjunction are
  -- conjunctions
  pub conjunction_offenders : Formula → List ℕ
  conjunction_offenders True = []
  conjunction_offenders (Pred p ts) = []
  conjunction_offenders (Equal t u) = []
  conjunction_offenders (Not' _ (more_of-Formula g _)) = unless_atom g
  conjunction_offenders (And' _ members) = conjunctions_offenders 1 members
  conjunction_offenders _ = itself

  -- each member, the first of which is node `at`
  pub conjunctions_offenders : ℕ → {n : _} → Row_of-Formula n → List ℕ
  conjunctions_offenders at end_of-Formula = []
  conjunctions_offenders at (more_of-Formula g rest) =
      placed_at at (conjunction_offenders g) ++ conjunctions_offenders (at + nodes g) rest

abbrev mutual
  -- as a premise: truth, an atom and a negated atom fit, and the parts of a conjunction, of a
  -- disjunction and of an existential formula are premises
  pub premise_offenders : Formula → List ℕ
  premise_offenders True = []
  premise_offenders (Pred p ts) = []
  premise_offenders (Equal t u) = []
  premise_offenders (Not' _ (more_of-Formula g _)) = unless_atom g
  premise_offenders (And' _ members) = premises_offenders 1 members
  premise_offenders (Or' _ members) = premises_offenders 1 members
  premise_offenders (Exists' xs _ (more_of-Formula g _)) = placed_at 1 (premise_offenders g)
  premise_offenders _ = itself

  pub premises_offenders : ℕ → {n : _} → Row_of-Formula n → List ℕ
  premises_offenders at end_of-Formula = []
  premises_offenders at (more_of-Formula g rest) =
      placed_at at (premise_offenders g) ++ premises_offenders (at + nodes g) rest

abbrev mutual
  -- as a conclusion: falsehood fits, the parts of an existential formula and of a disjunction are
  -- conclusions, and any other formula is a conjunction
  pub conclusion_offenders : Formula → List ℕ
  conclusion_offenders False = []
  conclusion_offenders (Exists' xs _ (more_of-Formula g _)) = placed_at 1 (conclusion_offenders g)
  conclusion_offenders (Or' _ members) = conclusions_offenders 1 members
  conclusion_offenders f = conjunction_offenders f

  pub conclusions_offenders : ℕ → {n : _} → Row_of-Formula n → List ℕ
  conclusions_offenders at end_of-Formula = []
  conclusions_offenders at (more_of-Formula g rest) =
      placed_at at (conclusion_offenders g) ++ conclusions_offenders (at + nodes g) rest

abbrev mutual
  -- as a rule: the part of a universal formula is a rule; of an implication one side is a premise
  -- and the other a rule, and of an equivalence each side is both; the members of a conjunction
  -- that is not plain are rules; and any other formula is a conclusion
  pub rule_offenders : Formula → List ℕ
  rule_offenders (ForAll' xs _ (more_of-Formula g _)) = placed_at 1 (rule_offenders g)
  rule_offenders (Binary' Implies _ (more_of-Formula g _) _ (more_of-Formula h _)) =
      placed_at 1 (premise_offenders g) ++ placed_at (1 + nodes g) (rule_offenders h)
  rule_offenders (Binary' Implied _ (more_of-Formula g _) _ (more_of-Formula h _)) =
      placed_at 1 (rule_offenders g) ++ placed_at (1 + nodes g) (premise_offenders h)
  rule_offenders (Binary' Iff _ (more_of-Formula g _) _ (more_of-Formula h _)) =
      placed_at 1 (premise_offenders g ++ rule_offenders g)
      ++ placed_at (1 + nodes g) (premise_offenders h ++ rule_offenders h)
  rule_offenders (And' shape members) =
      if are_plain members then conclusion_offenders (And' shape members)
      else rules_offenders 1 members
  rule_offenders f = conclusion_offenders f

  pub rules_offenders : ℕ → {n : _} → Row_of-Formula n → List ℕ
  rules_offenders at end_of-Formula = []
  rules_offenders at (more_of-Formula g rest) =
      placed_at at (rule_offenders g) ++ rules_offenders (at + nodes g) rest

-- a formula as a whole is a rule, and no node of it offends
abbrev pub IsCoherent : Formula → Type 0
IsCoherent f = rule_offenders f ≡ []

-- the first node that offends
pub record Offends (f : Formula) (node : ℕ) : Type 0 where
  pub offends : IsAmong node (rule_offenders f)
  pub first : AllByRecursion (λ other. node ≤ other) (rule_offenders f)
