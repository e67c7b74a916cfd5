-- Atoms of a form at elements for its variables, as facts of a store.
use Rattle.std.specs.Prelude.{ℕ, ◌+◌, ◌*◌, Bool, if◌then◌else◌, List, map, slice_index}
use Rattle.logic_core.specs.declared.form.Slot.{Slot}
use Rattle.logic_core.specs.declared.form.Slot.TheVariants.{Variable, Constant}
use Rattle.logic_core.specs.declared.form.Atom.{Atom}
use Rattle.fact_store.specs.Facts.{Fact, stands}

-- the number of a symbol, or of its complement, in a store
abbrev pub signed_number : Atom → ℕ
signed_number atom = 2 * atom.symbol + (if atom.positive then 0 else 1)

-- the element of a slot; constant number c is element c
abbrev pub element_at : List ℕ → Slot → ℕ
element_at elements (Variable i) = slice_index elements i
element_at elements (Constant c) = c

-- the elements of an atom
abbrev pub elements_at : List ℕ → Atom → List ℕ
elements_at elements atom = map (element_at elements) atom.args

-- the atom is one of the facts
abbrev pub stands_at : List Fact → List ℕ → Atom → Bool
stands_at facts elements atom = stands (signed_number atom) (elements_at elements atom) facts
