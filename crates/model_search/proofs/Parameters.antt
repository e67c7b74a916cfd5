-- The goal at its parameters.
use Rattle.std.proofs.Common.{◌≡◌, ℕ, zero, suc, ◌+◌, ◌-◌, ◌<◌, ◌≤◌, Bool, true, false, List, [], ◌∷◌, ◌++◌, map, length, refl, sym, ◌∙◌, ap, arith}
use Rattle.std.specs.Prelude.{slice_index, nat_lt, if◌then◌else◌}
use Rattle.std.specs.List.{AllByRecursion}
use Rattle.logic_core.specs.Forms.{AtomTrue, slot_value}
use Rattle.logic_core.specs.declared.form.Atom.{Atom}
use Rattle.logic_core.specs.declared.form.Slot.{Slot}
use Rattle.logic_core.specs.declared.form.Slot.TheVariants.{Variable, Constant}
use Rattle.vernacular_tree.specs.Contexts.{counted}
use Rattle.model_search.specs.Candidates.{Candidate, world}
use Rattle.model_search.specs.Rules.{slot_moved, atom_moved}

-- a number behind a front, and one in the front
index_behind : (xs ys : List ℕ) (v : ℕ) → length xs ≤ v → slice_index ys (v - length xs) ≡ slice_index (xs ++ ys) v
index_behind [] ys v h = ap (slice_index ys) (omega arith)
index_behind (x ∷ xs) ys zero h = absurd (omega arith)
index_behind (x ∷ xs) ys (suc v) h =
    let less : suc v - length (x ∷ xs) ≡ v - length xs = omega arith in
    ap (slice_index ys) less ∙ index_behind xs ys v (omega arith)

index_front : (xs ys : List ℕ) (v : ℕ) → v < length xs → slice_index xs v ≡ slice_index (xs ++ ys) v
index_front [] ys v h = absurd (omega arith)
index_front (x ∷ xs) ys zero h = refl
index_front (x ∷ xs) ys (suc v) h = index_front xs ys v (omega arith)

-- the image of numbers in a row
index_counted : (f : ℕ → ℕ) (first count v : ℕ) → v < count → f (first + v) ≡ slice_index (map f (counted first count)) v
index_counted f first zero v h = absurd (omega arith)
index_counted f first (suc count) zero h = ap f (omega arith)
index_counted f first (suc count) (suc v) h =
    let same : first + suc v ≡ first + 1 + v = omega arith in
    ap f same ∙ index_counted f (first + 1) count v (omega arith)

length_counted : (f : ℕ → ℕ) (first count : ℕ) → length (map f (counted first count)) ≡ count
length_counted f first zero = refl
length_counted f first (suc count) = let rest = length_counted f (first + 1) count in omega (arith, rest)

module _ (c : Candidate) (constants universals : ℕ) (xs : List ℕ) where
  -- the parameters in front of further values
  abbrev pub given : List ℕ
  given = map c.place (counted constants universals) ++ xs

  -- a slot has the value of the moved one
  slot_same : (slot : Slot) → slot_value (world c) xs (slot_moved constants universals slot) ≡ slot_value (world c) given slot
  slot_same (Constant k) = refl
  slot_same (Variable v) = by (nat_lt v universals) refl
    where
      by : (b : Bool) → nat_lt v universals ≡ b
          → slot_value (world c) xs (if b then Constant (constants + v) else Variable (v - universals)) ≡ slot_value (world c) given (Variable v)
      by true e =
          let below : v < universals = grind (arith, e) in
          index_counted c.place constants universals v below
          ∙ index_front (map c.place (counted constants universals)) xs v (let n = length_counted c.place constants universals in omega (arith, n, below))
      by false e =
          let above : universals ≤ v = grind (arith, e) in
          let n = length_counted c.place constants universals in
          ap (λ k. slice_index xs (v - k)) (sym n) ∙ index_behind (map c.place (counted constants universals)) xs v (omega (arith, n, above))

  slots_same : (slots : List Slot) → map (slot_value (world c) xs) (map (slot_moved constants universals) slots) ≡ map (slot_value (world c) given) slots
  slots_same [] = refl
  slots_same (slot ∷ slots) = (λ i. slot_same slot i ∷ slots_same slots i)

  -- an atom is true where the moved one is
  pub atom_there : (atom : Atom) → AtomTrue (world c) given atom → AtomTrue (world c) xs (atom_moved constants universals atom)
  atom_there atom h = ap ((world c).holds atom.symbol) (slots_same atom.args) ∙ h

  pub atom_back : (atom : Atom) → AtomTrue (world c) xs (atom_moved constants universals atom) → AtomTrue (world c) given atom
  atom_back atom h = sym (ap ((world c).holds atom.symbol) (slots_same atom.args)) ∙ h

  pub atoms_back : (atoms : List Atom) → AllByRecursion (AtomTrue (world c) xs) (map (atom_moved constants universals) atoms)
      → AllByRecursion (AtomTrue (world c) given) atoms
  atoms_back [] h = tt
  atoms_back (atom ∷ atoms) h = (atom_back atom h.0, atoms_back atoms h.1)
