-- A formula that definitions by cases take apart, as code builds it.
use Rattle.std.proofs.Common.{◌≡◌, List, [], ◌∷◌, refl, ap, sym, ◌∙◌}
use Rattle.logic_core.proofs.Laws.{row_of, Not_opens, And_opens, Or_opens, Binary_opens, ForAll_opens, Exists_opens}
use Rattle.logic_core.specs.declared.formula.Formula.{Formula, True, False, Pred, Equal, Not, And, Or, Binary, ForAll, Exists, Not', And', Or', Binary', ForAll', Exists', Row_of-Formula, end_of-Formula, more_of-Formula}
use Rattle.logic_core.specs.declared.formula.Formula.TheBlock.{shape-the_row-Formula-1}
use Rattle.logic_core.specs.declared.formula.Formula.TheOpen as layer
use Rattle.logic_core.specs.declared.formula.Formula.TheViews as views

-- the members of a row
abbrev pub members_of : {n : _} → Row_of-Formula n → List Formula
members_of end_of-Formula = []
members_of (more_of-Formula g rest) = g ∷ members_of rest

-- the members of the row of a list
members_row : (gs : List Formula) → members_of (row_of gs) ≡ gs
unfolding row_of shape-the_row-Formula-1
members_row [] = refl
members_row (g ∷ gs) = ap (λ (rest : List Formula). g ∷ rest) (members_row gs)

-- the same formula, built from its parts
abbrev pub rebuilt : Formula → Formula
rebuilt True = True
rebuilt False = False
rebuilt (Pred p ts) = Pred p ts
rebuilt (Equal t u) = Equal t u
rebuilt (Not' _ (more_of-Formula g _)) = Not g
rebuilt (And' _ row) = And (members_of row)
rebuilt (Or' _ row) = Or (members_of row)
rebuilt (Binary' o _ (more_of-Formula g _) _ (more_of-Formula h _)) = Binary o g h
rebuilt (ForAll' xs _ (more_of-Formula g _)) = ForAll xs g
rebuilt (Exists' xs _ (more_of-Formula g _)) = Exists xs g

-- one that code builds stays as it is
stays : (f : layer.Formula-F Formula) → rebuilt (views.roll-Formula f) ≡ views.roll-Formula f
stays layer.True = ap rebuilt views.rolls-True ∙ sym views.rolls-True
stays layer.False = ap rebuilt views.rolls-False ∙ sym views.rolls-False
stays (layer.Pred p ts) = ap rebuilt (views.rolls-Pred p ts) ∙ sym (views.rolls-Pred p ts)
stays (layer.Equal t u) = ap rebuilt (views.rolls-Equal t u) ∙ sym (views.rolls-Equal t u)
stays (layer.Not g) = ap rebuilt (views.rolls-Not g ∙ Not_opens g) ∙ sym (views.rolls-Not g)
stays (layer.And gs) = ap rebuilt (views.rolls-And gs ∙ And_opens gs) ∙ ap And (members_row gs) ∙ sym (views.rolls-And gs)
stays (layer.Or gs) = ap rebuilt (views.rolls-Or gs ∙ Or_opens gs) ∙ ap Or (members_row gs) ∙ sym (views.rolls-Or gs)
stays (layer.Binary o g h) = ap rebuilt (views.rolls-Binary o g h ∙ Binary_opens o g h) ∙ sym (views.rolls-Binary o g h)
stays (layer.ForAll xs g) = ap rebuilt (views.rolls-ForAll xs g ∙ ForAll_opens xs g) ∙ sym (views.rolls-ForAll xs g)
stays (layer.Exists xs g) = ap rebuilt (views.rolls-Exists xs g ∙ Exists_opens xs g) ∙ sym (views.rolls-Exists xs g)

-- each formula is built from its parts
pub as_built : (f : Formula) → f ≡ rebuilt f
as_built f = let e = views.roll-out-Formula f in sym e ∙ sym (stays (views.out-Formula f)) ∙ ap rebuilt e
