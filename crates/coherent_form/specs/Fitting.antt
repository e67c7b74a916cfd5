-- When a form fits the tables that number its symbols and constants.
use Rattle.std.specs.Prelude.{◌+◌, ◌≡◌, ◌<◌, length}
use Rattle.std.specs.List.{AllByRecursion}
use Rattle.text_core.specs.Numbered.{Tables}
use Rattle.logic_core.specs.Forms.{IsWellFormed}
use Rattle.logic_core.specs.declared.form.Atom.{Atom}
use Rattle.logic_core.specs.declared.form.Form.{Form}
use Rattle.coherent_form.specs.BuiltIns.{arity_in}
use Rattle.coherent_form.specs.Wide.{FormIsNarrow}

-- an atom's symbol is there, and it has as many arguments as the symbol's arity
pub record AtomFits (tables : Tables) (atom : Atom) : Type 0 where
  pub there : atom.symbol < length tables.symbols + 1
  pub arity : length atom.args ≡ arity_in tables atom.symbol

-- a form's variables and constants are there, its atoms fit, and it is within the limits of a form
pub record FormFits (tables : Tables) (form : Form) : Type 0 where
  pub formed : IsWellFormed (length tables.constants) form
  pub narrow : FormIsNarrow form
  pub premises : AllByRecursion (AtomFits tables) form.premises
  pub disjuncts : AllByRecursion (AllByRecursion (AtomFits tables)) form.disjuncts
