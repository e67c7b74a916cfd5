-- The canonical text of a formula that code builds, and its names.
use Rattle.std.proofs.Common.{◌≡◌, List, [], ◌∷◌, ◌++◌, map, codes, ap, ◌∙◌, refl, sym, subst, append_assoc}
use Rattle.std.specs.Prelude.{Result, OnOk}
use Rattle.std.specs.List.{AllByRecursion}
use Rattle.std.proofs.lemmas.Result.{on_ok_weaker}
use Rattle.text_core.specs.Names.{Text}
use Rattle.logic_core.proofs.Laws.{row_of, Not_opens, And_opens, Or_opens, Binary_opens, ForAll_opens, Exists_opens}
use Rattle.logic_core.specs.declared.formula.Op.{Op}
use Rattle.logic_core.specs.declared.formula.Term.{Term}
use Rattle.logic_core.specs.declared.formula.Formula.{Formula, True, False, Pred, Equal, Not, And, Or, Binary, ForAll, Exists, Not', And', Or', Binary', ForAll', Exists', end_of-Formula, more_of-Formula}
use Rattle.logic_core.specs.declared.formula.Formula.TheBlock.{shape-the_row-Formula-0, shape-the_row-Formula-1}
use Rattle.tptp_printer.specs.Canonical.{term_text, op_text, variables_text, joined_texts, in_unit, formula_text, chain_text}
use Rattle.tptp_printer.specs.Named.{TermIsNamed, IsNamed, EachIsNamed}

-- a chain by the list of its members
chain_row : (sign : Text) (gs : List Formula) → chain_text sign (row_of gs) ≡ joined_texts sign (map (λ g. in_unit g (formula_text g)) gs)
unfolding row_of shape-the_row-Formula-1
chain_row sign [] = refl
chain_row sign (g ∷ []) = refl
chain_row sign (g ∷ h ∷ gs) = ap (λ (text : Text). in_unit g (formula_text g) ++ sign ++ text) (chain_row sign (h ∷ gs))

-- a row whose members have names
named_row : (gs : List Formula) → AllByRecursion IsNamed gs → EachIsNamed (row_of gs)
unfolding row_of shape-the_row-Formula-1
named_row [] n = tt
named_row (g ∷ gs) n = (n.0, named_row gs n.1)

-- the text of a conjunction
pub And_text : (gs : List Formula) → formula_text (And gs) ≡ joined_texts (codes " & ") (map (λ g. in_unit g (formula_text g)) gs)
And_text gs = ap formula_text (And_opens gs) ∙ chain_row (codes " & ") gs

-- the text of a disjunction
pub Or_text : (gs : List Formula) → formula_text (Or gs) ≡ joined_texts (codes " | ") (map (λ g. in_unit g (formula_text g)) gs)
Or_text gs = ap formula_text (Or_opens gs) ∙ chain_row (codes " | ") gs

-- the text of an inequality
pub inequality_text : (t u : Term) → formula_text (Not (Equal t u)) ≡ term_text t ++ codes " != " ++ term_text u
inequality_text t u = ap formula_text (Not_opens (Equal t u))

-- the rules for the texts of formulas that hold others
pub ruleset opened = (And_text, Or_text, inequality_text)

-- the text of a negation of what is no equation
not_text : (g : Formula) → ((t u : Term) → g ≡ Equal t u → ⊥) → formula_text (Not' (shape-the_row-Formula-0 g) (more_of-Formula g end_of-Formula)) ≡ codes "~ " ++ in_unit g (formula_text g)
not_text True other = refl
not_text False other = refl
not_text (Pred p ts) other = refl
not_text (Equal t u) other = absurd (other t u refl)
not_text (Not' s row) other = refl
not_text (And' s row) other = refl
not_text (Or' s row) other = refl
not_text (Binary' o s row s2 row2) other = refl
not_text (ForAll' xs s row) other = refl
not_text (Exists' xs s row) other = refl

-- what is appended for a formula that is matched on is its text, also where its parts are read as other values
module _ {E : Type 0} (r : Result (Unit {0}) E) (old new : Text) (f g h : Formula) where
  -- a negation
  pub put_Not : (mid : Text) → f ≡ Not g → h ≡ g → ((t u : Term) → h ≡ Equal t u → ⊥) → mid ≡ old ++ codes "~ " → OnOk r (new ≡ mid ++ in_unit h (formula_text h)) → OnOk r (new ≡ old ++ formula_text f)
  put_Not mid is same other before put =
      let told : formula_text f ≡ codes "~ " ++ in_unit h (formula_text h) = ap formula_text (is ∙ ap Not (sym same) ∙ Not_opens h) ∙ not_text h other in
      on_ok_weaker r (λ e. e ∙ ap (λ (x : Text). x ++ in_unit h (formula_text h)) before ∙ append_assoc old (codes "~ ") (in_unit h (formula_text h)) ∙ ap (λ (x : Text). old ++ x) (sym told)) put

  -- for all
  pub put_ForAll : (xs ys : List Text) → f ≡ ForAll xs g → ys ≡ xs → h ≡ g → OnOk r (new ≡ old ++ (codes "! " ++ variables_text ys ++ in_unit h (formula_text h))) → OnOk r (new ≡ old ++ formula_text f)
  put_ForAll xs ys is names same put =
      let told : formula_text f ≡ codes "! " ++ variables_text ys ++ in_unit h (formula_text h) = ap formula_text (is ∙ ap (λ zs. ForAll zs g) (sym names) ∙ ap (ForAll ys) (sym same) ∙ ForAll_opens ys h) in
      on_ok_weaker r (λ e. e ∙ ap (λ (x : Text). old ++ x) (sym told)) put

  -- there is
  pub put_Exists : (xs ys : List Text) → f ≡ Exists xs g → ys ≡ xs → h ≡ g → OnOk r (new ≡ old ++ (codes "? " ++ variables_text ys ++ in_unit h (formula_text h))) → OnOk r (new ≡ old ++ formula_text f)
  put_Exists xs ys is names same put =
      let told : formula_text f ≡ codes "? " ++ variables_text ys ++ in_unit h (formula_text h) = ap formula_text (is ∙ ap (λ zs. Exists zs g) (sym names) ∙ ap (Exists ys) (sym same) ∙ Exists_opens ys h) in
      on_ok_weaker r (λ e. e ∙ ap (λ (x : Text). old ++ x) (sym told)) put

  -- two formulas and a connective
  pub put_Binary : (i j : Formula) (o : Op) (mid late : Text) → f ≡ Binary o g h → i ≡ g → j ≡ h → mid ≡ old ++ in_unit i (formula_text i) → late ≡ mid ++ (codes " " ++ op_text o ++ codes " ") → OnOk r (new ≡ late ++ in_unit j (formula_text j)) → OnOk r (new ≡ old ++ formula_text f)
  put_Binary i j o mid late is left right first second put =
      let told : formula_text f ≡ in_unit i (formula_text i) ++ codes " " ++ op_text o ++ codes " " ++ in_unit j (formula_text j) = ap formula_text (is ∙ ap (λ x. Binary o x h) (sym left) ∙ ap (Binary o i) (sym right) ∙ Binary_opens o i j) in
      on_ok_weaker r (λ e. e ∙ ap (λ (x : Text). x ++ in_unit j (formula_text j)) (second ∙ ap (λ (x : Text). x ++ (codes " " ++ op_text o ++ codes " ")) first) ∙ joined (in_unit i (formula_text i)) (op_text o) (in_unit j (formula_text j)) ∙ ap (λ (x : Text). old ++ x) (sym told)) put
    where
      joined : (x y z : Text) → (old ++ x) ++ (codes " " ++ y ++ codes " ") ++ z ≡ old ++ (x ++ codes " " ++ y ++ codes " " ++ z)
      joined x y z = simp append_assoc

-- the names of a formula that is matched on, likewise
pub named_inequality : (f g h : Formula) (t u : Term) → f ≡ Not g → h ≡ g → h ≡ Equal t u → TermIsNamed t × TermIsNamed u → IsNamed f
named_inequality f g h t u is same eq n = subst IsNamed (sym (is ∙ ap Not (sym same ∙ eq) ∙ Not_opens (Equal t u))) n

-- a negation
pub named_Not : (f g h : Formula) → f ≡ Not g → h ≡ g → IsNamed h → IsNamed f
named_Not f g h is same n = subst IsNamed (sym (is ∙ ap Not (sym same) ∙ Not_opens h)) n

-- a conjunction
pub named_And : (f : Formula) (gs hs : List Formula) → f ≡ And gs → hs ≡ gs → AllByRecursion IsNamed hs → IsNamed f
named_And f gs hs is same n = subst IsNamed (sym (is ∙ ap And (sym same) ∙ And_opens hs)) (named_row hs n)

-- a disjunction
pub named_Or : (f : Formula) (gs hs : List Formula) → f ≡ Or gs → hs ≡ gs → AllByRecursion IsNamed hs → IsNamed f
named_Or f gs hs is same n = subst IsNamed (sym (is ∙ ap Or (sym same) ∙ Or_opens hs)) (named_row hs n)

-- two formulas and a connective
pub named_Binary : (f g h i j : Formula) (o : Op) → f ≡ Binary o g h → i ≡ g → j ≡ h → IsNamed i → IsNamed j → IsNamed f
named_Binary f g h i j o is left right m n = subst IsNamed (sym (is ∙ ap (λ x. Binary o x h) (sym left) ∙ ap (Binary o i) (sym right) ∙ Binary_opens o i j)) (m, n)

-- for all
pub named_ForAll : (f g h : Formula) (xs : List Text) → f ≡ ForAll xs g → h ≡ g → IsNamed h → IsNamed f
named_ForAll f g h xs is same n = subst IsNamed (sym (is ∙ ap (ForAll xs) (sym same) ∙ ForAll_opens xs h)) n

-- there is
pub named_Exists : (f g h : Formula) (xs : List Text) → f ≡ Exists xs g → h ≡ g → IsNamed h → IsNamed f
named_Exists f g h xs is same n = subst IsNamed (sym (is ∙ ap (Exists xs) (sym same) ∙ Exists_opens xs h)) n
