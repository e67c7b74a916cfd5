-- The origin of each variable has the variable, and comes no later than any place of it.
use Rattle.std.proofs.Common.{◌≡◌, ℕ, zero, suc, ◌+◌, ◌<◌, ◌≤◌, ◌⊎◌, inl, inr, Bool, true, false, cond, List, [], ◌∷◌, ◌++◌, length, drop, Option, Some, None, slice_get, refl, sym, ap, subst, ◌∙◌, append-nil, add-one, arith}
use Rattle.std.specs.Option.{is_some, unwrap_or}
use Rattle.std.specs.List.{position, position_from}
use Rattle.std.proofs.lemmas.Iterator.Adapters.{position_from-zero}
use Rattle.std.proofs.lemmas.List.{length-append}
use Rattle.std.proofs.lemmas.Option.{slice_get_within}
use Rattle.std.proofs.lemmas.Bool.Decides.{nat_tests}
use Rattle.text_core.proofs.Laws.{get_front, get_behind, number_same}
use Rattle.logic_core.specs.declared.form.Slot.{Slot}
use Rattle.logic_core.specs.declared.form.Slot.TheVariants.{Variable, Constant}
use Rattle.logic_core.specs.declared.form.Atom.{Atom}
use Rattle.instance_cursor.specs.declared.origin.Origin.{Origin}
use Rattle.instance_cursor.specs.Origins.{is_variable, or_later, first_occurrence, free_variables, origin_of, origins_of}
use Rattle.instance_cursor.proofs.Lists.{below_or_last}

-- the item with this number
record HasAt {X : Type 0} (xs : List X) (first at : ℕ) (x : X) : Type 0 where
  pub number : ℕ
  pub is : at ≡ first + number
  pub item : slice_get xs number ≡ Some x

-- one item more in front
later : {X : Type 0} (y : X) (xs : List X) (first at : ℕ) (x : X) → HasAt xs (first + 1) at x → HasAt (y ∷ xs) first at x
later y xs first at x h = record { number = suc h.number; is = let e = h.is in omega arith; item = h.item }

module _ (variable : ℕ) where
  -- a slot that is the variable
  slot_is : (slot : Slot) → is_variable variable slot ≡ true → slot ≡ Variable variable
  slot_is (Variable i) e = ap Variable (number_same i variable e)
  slot_is (Constant c) e = absurd (cc)

  -- the variable is the variable
  is_itself : is_variable variable (Variable variable) ≡ true
  is_itself = grind (arith, nat_tests)

  -- a position has the variable
  position_has : (first : ℕ) (slots : List Slot) (position : ℕ) → position_from (is_variable variable) first slots ≡ Some position → HasAt slots first position (Variable variable)
  position_has first [] position e = absurd (cc)
  position_has first (slot ∷ slots) position e = by (is_variable variable slot) refl (position_has (first + 1) slots position) e
    where
      by : (test : Bool) → is_variable variable slot ≡ test
          → (position_from (is_variable variable) (first + 1) slots ≡ Some position → HasAt slots (first + 1) position (Variable variable))
          → cond test (Some first) (position_from (is_variable variable) (first + 1) slots) ≡ Some position → HasAt (slot ∷ slots) first position (Variable variable)
      by true is rest e = record { number = zero; is = let at : first ≡ position = cc in omega arith; item = ap Some (slot_is slot is) }
      by false is rest e = later slot slots first position (Variable variable) (rest e)

  -- where the variable is, there is a position
  position_there : (first : ℕ) (slots : List Slot) (number : ℕ) → slice_get slots number ≡ Some (Variable variable)
      → (position : ℕ) × (position_from (is_variable variable) first slots ≡ Some position)
  position_there first [] number e = absurd (cc)
  position_there first (slot ∷ slots) zero e =
      let same : slot ≡ Variable variable = cc in
      (first, ap (λ test. cond test (Some first) (position_from (is_variable variable) (first + 1) slots)) (ap (is_variable variable) same ∙ is_itself))
  position_there first (slot ∷ slots) (suc number) e = by (is_variable variable slot) (position_there (first + 1) slots number e)
    where
      by : (test : Bool) → (position : ℕ) × (position_from (is_variable variable) (first + 1) slots ≡ Some position)
          → (position : ℕ) × (cond test (Some first) (position_from (is_variable variable) (first + 1) slots) ≡ Some position)
      by true rest = (first, refl)
      by false rest = rest

  -- an atom with the variable at a position, at a depth
  pub record IsPlacedAt (depth : ℕ) (atoms : List Atom) (origin : Origin) : Type 0 where
    pub number : ℕ
    pub is : origin.depth ≡ depth + number
    pub atom : Atom
    pub here : slice_get atoms number ≡ Some atom
    pub slot : slice_get atom.args origin.position ≡ Some (Variable variable)

  -- a first place has the variable
  pub placed : (depth : ℕ) (atoms : List Atom) (origin : Origin) → first_occurrence variable depth atoms ≡ Some origin → IsPlacedAt depth atoms origin
  placed depth [] origin e = absurd (cc)
  placed depth (atom ∷ atoms) origin e =
      by (position (is_variable variable) atom.args) refl (placed (depth + 1) atoms origin) e
    where
      by : (o : Option ℕ) → position (is_variable variable) atom.args ≡ o → (first_occurrence variable (depth + 1) atoms ≡ Some origin → IsPlacedAt (depth + 1) atoms origin)
          → or_later depth o (first_occurrence variable (depth + 1) atoms) ≡ Some origin → IsPlacedAt depth (atom ∷ atoms) origin
      by None none rest e = let h = rest e in record { number = suc h.number; is = let at = h.is in omega arith; atom = h.atom; here = h.here; slot = h.slot }
      by (Some position) some rest e =
          let same : record { depth = depth; position = position } ≡ origin = cc in
          let has = position_has 0 atom.args position (sym (position_from-zero (is_variable variable) atom.args) ∙ some) in
          subst (IsPlacedAt depth (atom ∷ atoms)) same (record {
            number = zero;
            is = omega arith;
            atom = atom;
            here = refl;
            slot = subst (λ n. slice_get atom.args n ≡ Some (Variable variable)) (let at = has.is in omega arith) has.item;
          })

  -- where the variable is, there is a first place, no later
  pub record IsFound (depth number : ℕ) (atoms : List Atom) : Type 0 where
    pub origin : Origin
    pub first : first_occurrence variable depth atoms ≡ Some origin
    pub early : origin.depth ≤ depth + number

  pub found : (depth : ℕ) (atoms : List Atom) (number : ℕ) (atom : Atom) (at : ℕ) → slice_get atoms number ≡ Some atom
      → slice_get atom.args at ≡ Some (Variable variable) → IsFound depth number atoms
  found depth [] number atom at here slot = absurd (cc)
  found depth (a ∷ atoms) zero atom at here slot =
      let same : atom ≡ a = cc in
      let position = position_there 0 a.args at (subst (λ b. slice_get b.args at ≡ Some (Variable variable)) same slot) in record {
        origin = record { depth = depth; position = position.0 };
        first = ap (λ o. or_later depth o (first_occurrence variable (depth + 1) atoms)) (position_from-zero (is_variable variable) a.args ∙ position.1);
        early = omega arith;
      }
  found depth (a ∷ atoms) (suc number) atom at here slot =
      by (position (is_variable variable) a.args) refl (found (depth + 1) atoms number atom at here slot)
    where
      by : (o : Option ℕ) → position (is_variable variable) a.args ≡ o → IsFound (depth + 1) number atoms → IsFound depth (suc number) (a ∷ atoms)
      by None none rest = record {
        origin = rest.origin;
        first = ap (λ o. or_later depth o (first_occurrence variable (depth + 1) atoms)) none ∙ rest.first;
        early = let low = rest.early in omega arith;
      }
      by (Some position) some rest = record {
        origin = record { depth = depth; position = position };
        first = ap (λ o. or_later depth o (first_occurrence variable (depth + 1) atoms)) some;
        early = omega arith;
      }

module _ (premises : List Atom) where
  -- the origin of a variable in a premise
  pub origin_of-placed : (variable : ℕ) (origin : Origin) → first_occurrence variable 0 premises ≡ Some origin → origin_of premises variable ≡ origin
  origin_of-placed variable origin e = ap (λ o. unwrap_or o (record { depth = length premises + length (free_variables premises variable); position = 0 })) e

  -- the origin of a variable in no premise
  pub origin_of-free : (variable : ℕ) → first_occurrence variable 0 premises ≡ None
      → origin_of premises variable ≡ record { depth = length premises + length (free_variables premises variable); position = 0 }
  origin_of-free variable e = ap (λ o. unwrap_or o (record { depth = length premises + length (free_variables premises variable); position = 0 })) e

  -- there are as many origins as variables
  pub length-origins : (n : ℕ) → length (origins_of premises n) ≡ n
  length-origins zero = refl
  length-origins (suc n) = length-append (origins_of premises n) _ ∙ add-one _ ∙ ap suc (length-origins n)

  -- the origin with a variable's number
  pub origins_at : (n variable : ℕ) → variable < n → slice_get (origins_of premises n) variable ≡ Some (origin_of premises variable)
  origins_at zero variable h = absurd (omega arith)
  origins_at (suc n) variable h = elim (below_or_last variable n h) [
    | inl l ↦ get_front (origins_of premises n) _ variable _ (origins_at n variable l)
    | inr e ↦ subst (λ v. slice_get (origins_of premises n ++ origin_of premises n ∷ []) v ≡ Some (origin_of premises v)) e
        (subst (λ v. slice_get (origins_of premises n ++ origin_of premises n ∷ []) v ≡ Some (origin_of premises n)) (length-origins n)
        (get_behind (origins_of premises n) (origin_of premises n) []))
  ]

  -- a free variable is among the free ones, with the number of those before it
  pub free_at : (n variable : ℕ) → variable < n → first_occurrence variable 0 premises ≡ None
      → slice_get (free_variables premises n) (length (free_variables premises variable)) ≡ Some variable
  free_at zero variable h e = absurd (omega arith)
  free_at (suc n) variable h e = elim (below_or_last variable n h) [
    | inl l ↦ get_front (free_variables premises n) _ _ _ (free_at n variable l e)
    | inr same ↦ subst (λ v. slice_get (free_variables premises (suc n)) (length (free_variables premises v)) ≡ Some v) same
        (subst (λ o. slice_get (free_variables premises n ++ cond (is_some o) [] (n ∷ [])) (length (free_variables premises n)) ≡ Some n)
        (sym (ap (λ v. first_occurrence v 0 premises) same ∙ e)) (get_behind (free_variables premises n) n []))
  ]

  -- one of the free variables
  pub record IsFree (n number variable : ℕ) : Type 0 where
    pub below : variable < n
    pub none : first_occurrence variable 0 premises ≡ None
    pub before : length (free_variables premises variable) ≡ number

  -- an item behind a front
  at_end : {X : Type 0} (xs : List X) (y : X) (i : ℕ) (x : X) → slice_get (xs ++ y ∷ []) i ≡ Some x → (slice_get xs i ≡ Some x) ⊎ ((length xs ≡ i) × (y ≡ x))
  at_end [] y zero x e = inr (refl, cc)
  at_end [] y (suc i) x e = absurd (cc)
  at_end (z ∷ xs) y zero x e = inl e
  at_end (z ∷ xs) y (suc i) x e = elim (at_end xs y i x e) [ inl h ↦ inl h | inr h ↦ inr (ap suc h.0, h.1) ]

  -- the free variable with a number is free, and has as many before it
  pub free_is : (n number variable : ℕ) → slice_get (free_variables premises n) number ≡ Some variable → IsFree n number variable
  free_is zero number variable e = absurd (cc)
  free_is (suc n) number variable e = by (first_occurrence n 0 premises) refl (free_is n number variable) e
    where
      wider : IsFree n number variable → IsFree (suc n) number variable
      wider h = record { below = let low = h.below in omega arith; none = h.none; before = h.before }

      last : first_occurrence n 0 premises ≡ None → (length (free_variables premises n) ≡ number) × (n ≡ variable) → IsFree (suc n) number variable
      last none h = subst (IsFree (suc n) number) h.1 (record { below = omega arith; none = none; before = h.0 })

      by : (o : Option Origin) → first_occurrence n 0 premises ≡ o → (slice_get (free_variables premises n) number ≡ Some variable → IsFree n number variable)
          → slice_get (free_variables premises n ++ cond (is_some o) [] (n ∷ [])) number ≡ Some variable → IsFree (suc n) number variable
      by (Some origin) some rest e = wider (rest (subst (λ vs. slice_get vs number ≡ Some variable) (append-nil (free_variables premises n)) e))
      by None none rest e = elim (at_end (free_variables premises n) n number variable e) [ inl h ↦ wider (rest h) | inr h ↦ last none h ]

  -- there are at most as many free variables as variables
  pub free_few : (n : ℕ) → length (free_variables premises n) ≤ n
  free_few zero = omega arith
  free_few (suc n) = by (first_occurrence n 0 premises) (free_few n)
    where
      by : (o : Option Origin) → length (free_variables premises n) ≤ n → length (free_variables premises n ++ cond (is_some o) [] (n ∷ [])) ≤ suc n
      by (Some origin) few = omega (arith, length-append (free_variables premises n) [])
      by None few = omega (arith, length-append (free_variables premises n) (n ∷ []))

  -- the depths with one variable more: one more where its origin is behind those that there were
  pub depths_more : (n : ℕ) → (origin_of premises n).depth ≡ length premises + length (free_variables premises n)
      → length premises + length (free_variables premises (n + 1)) ≡ length premises + length (free_variables premises n) + 1
  depths_more n e = ap (λ m. length premises + length (free_variables premises m)) (add-one n) ∙ by (first_occurrence n 0 premises) refl e
    where
      by : (o : Option Origin) → first_occurrence n 0 premises ≡ o
          → (unwrap_or o (record { depth = length premises + length (free_variables premises n); position = 0 })).depth ≡ length premises + length (free_variables premises n)
          → length premises + length (free_variables premises n ++ cond (is_some o) [] (n ∷ [])) ≡ length premises + length (free_variables premises n) + 1
      by (Some origin) some e =
          let p = placed n 0 premises origin some in
          let low = slice_get_within premises p.number p.atom p.here in
          let at = p.is in
          absurd (omega (arith, low, at, e))
      by None none e = omega (arith, length-append (free_variables premises n) (n ∷ []))

  -- the depths with one variable more: as many where its origin is one of those that there were
  pub depths_same : (n : ℕ) → ((origin_of premises n).depth ≡ length premises + length (free_variables premises n) → ⊥)
      → length premises + length (free_variables premises (n + 1)) ≡ length premises + length (free_variables premises n)
  depths_same n h = ap (λ m. length premises + length (free_variables premises m)) (add-one n) ∙ by (first_occurrence n 0 premises) h
    where
      by : (o : Option Origin)
          → ((unwrap_or o (record { depth = length premises + length (free_variables premises n); position = 0 })).depth ≡ length premises + length (free_variables premises n) → ⊥)
          → length premises + length (free_variables premises n ++ cond (is_some o) [] (n ∷ [])) ≡ length premises + length (free_variables premises n)
      by (Some origin) h = omega (arith, length-append (free_variables premises n) [])
      by None h = absurd (h refl)

-- ---- the search for a first place

-- a list from an item on
drop_item : {X : Type 0} (xs : List X) (i : ℕ) (x : X) → slice_get xs i ≡ Some x → drop i xs ≡ x ∷ drop (i + 1) xs
drop_item xs i x e = from xs i x e ∙ ap (λ n. x ∷ drop n xs) (sym (add-one i))
  where
    from : {X : Type 0} (xs : List X) (i : ℕ) (x : X) → slice_get xs i ≡ Some x → drop i xs ≡ x ∷ drop (suc i) xs
    from [] i x e = absurd (cc)
    from (y ∷ xs) zero x e = let same : y ≡ x = cc in ap (λ z. z ∷ xs) same
    from (y ∷ xs) (suc i) x e = from xs i x e

module _ (variable depth : ℕ) (premises : List Atom) (atom : Atom) (here : slice_get premises depth ≡ Some atom) where
  -- the first place in an atom that has the variable
  pub first_occurrence-here : (at : ℕ) → position (is_variable variable) atom.args ≡ Some at → first_occurrence variable depth (drop depth premises) ≡ Some (record { depth = depth; position = at })
  first_occurrence-here at e =
      ap (first_occurrence variable depth) (drop_item premises depth atom here)
      ∙ ap (λ o. or_later depth o (first_occurrence variable (depth + 1) (drop (depth + 1) premises))) e

  -- the first place behind an atom that does not have the variable
  pub first_occurrence-later : position (is_variable variable) atom.args ≡ None → first_occurrence variable depth (drop depth premises) ≡ first_occurrence variable (depth + 1) (drop (depth + 1) premises)
  first_occurrence-later e =
      ap (first_occurrence variable depth) (drop_item premises depth atom here)
      ∙ ap (λ o. or_later depth o (first_occurrence variable (depth + 1) (drop (depth + 1) premises))) e
