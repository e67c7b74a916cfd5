-- When an atom of a form can be written, and which texts its variables have.
use Rattle.std.specs.Prelude.{ℕ, ◌+◌, ◌<◌, List, length, slice_get, unwrap_or}
use Rattle.std.specs.List.{AllByRecursion}
use Rattle.text_core.specs.Names.{Text}
use Rattle.text_core.specs.Numbered.{Tables}
use Rattle.logic_core.specs.declared.form.Slot.{Slot}
use Rattle.logic_core.specs.declared.form.Slot.TheVariants.{Variable, Constant}
use Rattle.logic_core.specs.declared.form.Atom.{Atom}
use Rattle.isar_text.specs.Formulas.{variable_text}

-- a constant has a name
abbrev pub SlotIsNamed : ℕ → Slot → Type 0
SlotIsNamed constants (Variable i) = Unit {0}
SlotIsNamed constants (Constant c) = c < constants

-- the symbol and the constants of an atom have names
pub record AtomIsThere (tables : Tables) (atom : Atom) : Type 0 where
  pub symbol : atom.symbol < length tables.symbols + 1
  pub args : AllByRecursion (SlotIsNamed (length tables.constants)) atom.args

-- the text of a variable: the one that is given for it, or else its own
abbrev pub variable_in : List Text → ℕ → Text
variable_in names i = unwrap_or (slice_get names i) (variable_text i)
