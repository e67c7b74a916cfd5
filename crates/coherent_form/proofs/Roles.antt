-- What it means for the parts of a formula that none of its nodes offends.
use Rattle.std.proofs.Common.{◌≡◌, ℕ, ◌+◌, Bool, true, false, if◌then◌else◌, List, [], ◌∷◌, ◌++◌, refl, ap}
use Rattle.logic_core.specs.declared.formula.Formula.{Formula, True, False, Pred, Equal, Not', And', Or', Binary', ForAll', Exists', Row_of-Formula, end_of-Formula, more_of-Formula}
use Rattle.text_core.proofs.Laws.{and_both, and_true}
use Rattle.coherent_form.specs.Offending.{nodes, is_atom, is_plain, are_plain, placed_at, itself, unless_atom, conjunction_offenders, conjunctions_offenders}

-- no offender in two lists of them
pub both_none : (xs ys : List ℕ) → xs ++ ys ≡ [] → (xs ≡ []) × (ys ≡ [])
both_none [] ys e = (refl, e)
both_none (x ∷ xs) ys e = absurd (cc)

-- no offender of a part
pub part_none : (at : ℕ) (xs : List ℕ) → placed_at at xs ≡ [] → xs ≡ []
part_none at [] e = refl
part_none at (x ∷ xs) e = absurd (cc)

-- a part and a list of further ones
pub parts_none : (at : ℕ) (xs ys : List ℕ) → placed_at at xs ++ ys ≡ [] → (xs ≡ []) × (ys ≡ [])
parts_none at xs ys e = let both = both_none (placed_at at xs) ys e in (part_none at xs both.0, both.1)

-- the node itself is an offender
pub offends_itself : itself ≡ [] → ⊥
offends_itself e = cc

-- what fits under a negation is an atom
pub negated_atom : (g : Formula) → unless_atom g ≡ [] → is_atom g ≡ true
negated_atom g e = go (is_atom g) e
  where
    go : (b : Bool) → (if b then [] else itself) ≡ [] → b ≡ true
    go true e = refl
    go false e = absurd (offends_itself e)

-- what is told of two choices by one test, where no node offends in the one that is taken
pub by_test : {A : Type 0} (Q : A → Type 0) (b : Bool) (xs ys : List ℕ) (x y : A) → (if b then xs else ys) ≡ []
    → (xs ≡ [] → Q x) → (ys ≡ [] → Q y) → Q (if b then x else y)
by_test Q true xs ys x y e if_passes if_fails = if_passes e
by_test Q false xs ys x y e if_passes if_fails = if_fails e

-- what is plain fits as a conjunction, and nothing else does

-- an atom under a negation fits
unless_atom_none : (g : Formula) → is_atom g ≡ true → unless_atom g ≡ []
unless_atom_none g is = ap (λ b. if b then [] else itself) is

mutual
  -- a plain formula has no offender as a conjunction
  pub plain_fits : (f : Formula) → is_plain f ≡ true → conjunction_offenders f ≡ []
  plain_fits True is = refl
  plain_fits False is = absurd (cc)
  plain_fits (Pred p ts) is = refl
  plain_fits (Equal t u) is = refl
  plain_fits (Not' _ (more_of-Formula g _)) is = unless_atom_none g is
  plain_fits (And' _ members) is = members_fit members 1 is
  plain_fits (Or' _ members) is = absurd (cc)
  plain_fits (Binary' op _ (more_of-Formula g _) _ (more_of-Formula h _)) is = absurd (cc)
  plain_fits (ForAll' xs _ (more_of-Formula g _)) is = absurd (cc)
  plain_fits (Exists' xs _ (more_of-Formula g _)) is = absurd (cc)

  -- nor have plain members
  pub members_fit : {n : _} (members : Row_of-Formula n) (at : ℕ) → are_plain members ≡ true → conjunctions_offenders at members ≡ []
  members_fit end_of-Formula at is = refl
  members_fit (more_of-Formula g rest) at is =
      let both = and_both (is_plain g) (are_plain rest) is in
      let first = plain_fits g both.0 in
      let others = members_fit rest (at + nodes g) both.1 in
      (λ i. placed_at at (first i) ++ others i)

mutual
  -- what has none is plain
  pub fits_is_plain : (f : Formula) → conjunction_offenders f ≡ [] → is_plain f ≡ true
  fits_is_plain True fits = refl
  fits_is_plain False fits = absurd (offends_itself fits)
  fits_is_plain (Pred p ts) fits = refl
  fits_is_plain (Equal t u) fits = refl
  fits_is_plain (Not' _ (more_of-Formula g _)) fits = negated_atom g fits
  fits_is_plain (And' _ members) fits = fitting_are_plain members 1 fits
  fits_is_plain (Or' _ members) fits = absurd (offends_itself fits)
  fits_is_plain (Binary' op _ (more_of-Formula g _) _ (more_of-Formula h _)) fits = absurd (offends_itself fits)
  fits_is_plain (ForAll' xs _ (more_of-Formula g _)) fits = absurd (offends_itself fits)
  fits_is_plain (Exists' xs _ (more_of-Formula g _)) fits = absurd (offends_itself fits)

  -- and so are members
  pub fitting_are_plain : {n : _} (members : Row_of-Formula n) (at : ℕ) → conjunctions_offenders at members ≡ [] → are_plain members ≡ true
  fitting_are_plain end_of-Formula at fits = refl
  fitting_are_plain (more_of-Formula g rest) at fits =
      let parts = parts_none at (conjunction_offenders g) (conjunctions_offenders (at + nodes g) rest) fits in
      and_true (is_plain g) (are_plain rest) (fits_is_plain g parts.0) (fitting_are_plain rest (at + nodes g) parts.1)
