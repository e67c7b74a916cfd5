-- How names are numbered, in order of first occurrence.
use Rattle.std.specs.Prelude.{ℕ, ◌+◌, Bool, ◌&&◌, ◌==◌, nat_eq, List, [], ◌∷◌, ◌++◌, Option, position, if◌then◌else◌}
use Rattle.std.specs.Option.{option_map}
use Rattle.std.specs.List.{list_any, position_or_len, IsDistinct}
use Rattle.std.specs.Cmp.Lexicographic.{pointwise}
use Rattle.text_core.specs.Names.{Text}
use Rattle.text_core.specs.Numbered.{Symbol}

-- whether a symbol has this name and this arity
abbrev pub is_symbol : Text → ℕ → Symbol → Bool
is_symbol name arity symbol = pointwise nat_eq name symbol.name && (arity == symbol.arity)

-- no symbol is in the list twice
abbrev pub AreDistinctSymbols : List Symbol → Type 0
AreDistinctSymbols symbols = IsDistinct (λ s t. is_symbol s.name s.arity t) symbols

-- no constant is in the list twice
abbrev pub AreDistinctConstants : List Text → Type 0
AreDistinctConstants constants = IsDistinct (pointwise nat_eq) constants

-- the number of a symbol is one more than its number in the list, since equality has number 0; one
-- that is not there comes after the last
unfoldable pub symbol_number : List Symbol → Text → ℕ → ℕ
symbol_number symbols name arity = position_or_len (is_symbol name arity) symbols + 1

-- the number of a symbol that is there
unfoldable pub found_symbol : List Symbol → Text → ℕ → Option ℕ
found_symbol symbols name arity = option_map (λ n. n + 1) (position (is_symbol name arity) symbols)

-- the list with this symbol last, unless it is there
unfoldable pub with_symbol : List Symbol → Text → ℕ → List Symbol
with_symbol symbols name arity = if list_any (is_symbol name arity) symbols then symbols
    else symbols ++ record { name = name; arity = arity } ∷ []

-- the number of a constant is its number in the list; one that is not there comes after the last
unfoldable pub constant_number : List Text → Text → ℕ
constant_number constants name = position_or_len (pointwise nat_eq name) constants

-- the number of a constant that is there
unfoldable pub found_constant : List Text → Text → Option ℕ
found_constant constants name = position (pointwise nat_eq name) constants

-- the list with this constant last, unless it is there
unfoldable pub with_constant : List Text → Text → List Text
with_constant constants name = if list_any (pointwise nat_eq name) constants then constants
    else constants ++ name ∷ []
