-- Laws for callers: how a formula that code builds looks to the definitions by cases, which see its parts in a row.
use Rattle.std.proofs.Common.{◌≡◌, ◌+◌, List, [], ◌∷◌, refl, ap}
use mathlib.Core.Former.{arity, list, this}
use denote.Hole.Carrier.{hidden}
use Rattle.logic_core.specs.Allowed.{depth}
use Rattle.text_core.specs.Names.{Text}
use Rattle.logic_core.specs.declared.formula.Op.{Op}
use Rattle.logic_core.specs.declared.formula.Formula.{Formula, Not, And, Or, Binary, ForAll, Exists, Not', And', Or', Binary', ForAll', Exists', Row_of-Formula, end_of-Formula, more_of-Formula}
use Rattle.logic_core.specs.declared.formula.Formula.TheBlock.{shape-the_row-Formula-0, hidden-the_row-Formula-0, shape-the_row-Formula-1, hidden-the_row-Formula-1}

-- a list of formulas as a row
unfoldable pub row_of : (gs : List Formula) → Row_of-Formula (arity (list this) (shape-the_row-Formula-1 gs))
unfolding shape-the_row-Formula-1
row_of [] = end_of-Formula
row_of (g ∷ gs) = more_of-Formula g (row_of gs)

-- a negation
pub Not_opens : (g : Formula) → Not g ≡ Not' (shape-the_row-Formula-0 g) (more_of-Formula g end_of-Formula)
unfolding hidden-the_row-Formula-0 hidden
Not_opens g = refl

-- the row that a list of formulas hides
pub hidden-row_of : (gs : List Formula) → hidden-the_row-Formula-1 gs ≡ row_of gs
unfolding hidden-the_row-Formula-1 hidden row_of shape-the_row-Formula-1
hidden-row_of [] = refl
hidden-row_of (g ∷ gs) = ap (more_of-Formula g) (hidden-row_of gs)

-- a conjunction
pub And_opens : (gs : List Formula) → And gs ≡ And' (shape-the_row-Formula-1 gs) (row_of gs)
And_opens gs = ap (And' (shape-the_row-Formula-1 gs)) (hidden-row_of gs)

-- a disjunction
pub Or_opens : (gs : List Formula) → Or gs ≡ Or' (shape-the_row-Formula-1 gs) (row_of gs)
Or_opens gs = ap (Or' (shape-the_row-Formula-1 gs)) (hidden-row_of gs)

-- a formula with a binary connective
pub Binary_opens : (op : Op) (g h : Formula) → Binary op g h ≡ Binary' op (shape-the_row-Formula-0 g) (more_of-Formula g end_of-Formula) (shape-the_row-Formula-0 h) (more_of-Formula h end_of-Formula)
unfolding hidden-the_row-Formula-0 hidden
Binary_opens op g h = refl

-- a universal formula
pub ForAll_opens : (xs : List Text) (g : Formula) → ForAll xs g ≡ ForAll' xs (shape-the_row-Formula-0 g) (more_of-Formula g end_of-Formula)
unfolding hidden-the_row-Formula-0 hidden
ForAll_opens xs g = refl

-- an existential formula
pub Exists_opens : (xs : List Text) (g : Formula) → Exists xs g ≡ Exists' xs (shape-the_row-Formula-0 g) (more_of-Formula g end_of-Formula)
unfolding hidden-the_row-Formula-0 hidden
Exists_opens xs g = refl

-- the depth of a universal formula
pub depth-ForAll : (xs : List Text) (g : Formula) → depth (ForAll xs g) ≡ depth g + 1
depth-ForAll xs g = ap depth (ForAll_opens xs g)
