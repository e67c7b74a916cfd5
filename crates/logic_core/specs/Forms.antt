-- Coherent forms: when one is well-formed, and when it is true. Source: the coherent formulas of
-- the 2014 paper "A Vernacular for Coherent Logic".
use Rattle.std.specs.Prelude.{ℕ, ◌+◌, ◌<◌, ◌≡◌, ◌==◌, zero, suc, Bool, false, List, [], ◌∷◌, ◌++◌, map, length, slice_get, slice_index, Option, Some, None}
use Rattle.std.specs.List.{AllByRecursion}
use Rattle.text_core.specs.Numbered.{Symbol, Tables, text_or_empty}
use Rattle.text_core.specs.Lists.{SomeOf}
use Rattle.logic_core.specs.Truth.{Structure}
use Rattle.logic_core.specs.declared.form.Slot.{Slot}
use Rattle.logic_core.specs.declared.form.Slot.TheVariants.{Variable, Constant}
use Rattle.logic_core.specs.declared.form.Atom.{Atom}
use Rattle.logic_core.specs.declared.form.Form.{Form}

-- a slot names one of the first variables or one of the first constants
abbrev pub SlotIsBelow : ℕ → ℕ → Slot → Type 0
SlotIsBelow variables constants (Variable i) = i < variables
SlotIsBelow variables constants (Constant c) = c < constants

abbrev pub AtomIsBelow : ℕ → ℕ → Atom → Type 0
AtomIsBelow variables constants atom = AllByRecursion (SlotIsBelow variables constants) atom.args

-- premises have universal variables alone, disjuncts universal and existential ones, and all
-- constants are among the first ones
pub record IsWellFormed (constants : ℕ) (form : Form) : Type 0 where
  pub premises : AllByRecursion (AtomIsBelow form.universals constants) form.premises
  pub disjuncts : AllByRecursion (AllByRecursion
      (AtomIsBelow (form.universals + form.existentials) constants)) form.disjuncts

-- a structure for symbols and constants that are numbers
pub record Interpretation : Type 1 where
  pub element : ℕ → Type 0
  pub holds : ℕ → List ℕ → Bool
  pub place : ℕ → ℕ

-- equality holds of two identical elements
abbrev pub are_equal : List ℕ → Bool
are_equal (x ∷ y ∷ []) = x == y
are_equal _ = false

-- a symbol holds as the predicate of its name
abbrev pub holds_by_name : Structure → Option Symbol → List ℕ → Bool
holds_by_name s (Some symbol) xs = s.holds symbol.name xs
holds_by_name s None xs = false

abbrev pub holds_by_number : Structure → Tables → ℕ → List ℕ → Bool
holds_by_number s tables zero xs = are_equal xs
holds_by_number s tables (suc n) xs = holds_by_name s (slice_get tables.symbols n) xs

-- a structure, through the numbers of the tables
abbrev pub interpretation : Structure → Tables → Interpretation
interpretation s tables = record {
  element = s.element;
  holds = holds_by_number s tables;
  place = λ c. s.place (text_or_empty (slice_get tables.constants c));
}

module _ (i : Interpretation) where
  -- a slot's element, given the values of the variables by number
  abbrev pub slot_value : List ℕ → Slot → ℕ
  slot_value values (Variable v) = slice_index values v
  slot_value values (Constant c) = i.place c

  -- an atom holds where its symbol does, a complement where its symbol does not
  abbrev pub AtomTrue : List ℕ → Atom → Type 0
  AtomTrue values atom = i.holds atom.symbol (map (slot_value values) atom.args) ≡ atom.positive

  -- as many elements of the structure as asked for
  pub record AreElements (count : ℕ) (values : List ℕ) : Type 0 where
    pub length_is : length values ≡ count
    pub are : AllByRecursion i.element values

  -- there are values for the existential variables at which every atom of some disjunct holds
  pub record ConclusionTrue (form : Form) (universals : List ℕ) : Type 0 where
    pub existentials : List ℕ
    pub values : AreElements form.existentials existentials
    pub holds : SomeOf (AllByRecursion (AtomTrue (universals ++ existentials))) form.disjuncts

  -- at all values of the universal variables at which every premise holds, the conclusion is true
  abbrev pub FormTrue : Form → Type 0
  FormTrue form = (universals : List ℕ) → AreElements form.universals universals
      → AllByRecursion (AtomTrue universals) form.premises → ConclusionTrue form universals
