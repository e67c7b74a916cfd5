-- Predicate symbols and constants by number.
use Rattle.std.specs.Prelude.{ℕ, List, [], Option, Some, None}
use Rattle.text_core.specs.Names.{Text}

-- a predicate symbol is a name with an arity
pub record Symbol : Type 0 where
  pub name : Text
  pub arity : ℕ

-- what numbers stand for: symbol 0 is equality, symbol n + 1 is the n-th of the symbols, and
-- constant c the c-th of the constants
pub record Tables : Type 0 where
  pub symbols : List Symbol
  pub constants : List Text

-- a name that is there, or the empty text
abbrev pub text_or_empty : Option Text → Text
text_or_empty (Some name) = name
text_or_empty None = []
