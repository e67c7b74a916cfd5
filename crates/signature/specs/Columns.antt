-- How the tables are kept: the names of the symbols, and each symbol as the number of its name with
-- its arity.
use Rattle.std.specs.Prelude.{ℕ, ◌+◌, ◌^◌, ◌<◌, ◌≤◌, List, map, length, slice_get, nat_eq, Bool, ◌&&◌, [], ◌∷◌, ◌++◌, Option, position, if◌then◌else◌}
use Rattle.std.specs.List.{AllByRecursion, IsDistinct, list_any, position_or_len}
use Rattle.std.specs.Cmp.Lexicographic.{pointwise}
use Rattle.text_core.specs.Names.{Text}
use Rattle.text_core.specs.Numbered.{Symbol, text_or_empty}

-- the number of a name, which comes after the last where it is not there
abbrev pub name_number : List Text → Text → ℕ
name_number names name = position_or_len (pointwise nat_eq name) names

-- the number of a name that is there
abbrev pub found_name : List Text → Text → Option ℕ
found_name names name = position (pointwise nat_eq name) names

-- the names with this one last, unless it is there
abbrev pub with_name : List Text → Text → List Text
with_name names name = if list_any (pointwise nat_eq name) names then names else names ++ name ∷ []

-- the symbol of a pair of a name's number and an arity
abbrev pub symbol_in : List Text → ℕ × ℕ → Symbol
symbol_in names pair = record { name = text_or_empty (slice_get names pair.0); arity = pair.1 }

-- the symbols of the pairs
abbrev pub symbols_in : List Text → List (ℕ × ℕ) → List Symbol
symbols_in names pairs = map (symbol_in names) pairs

-- whether two pairs are the same
abbrev pub is_same_pair : ℕ × ℕ → ℕ × ℕ → Bool
is_same_pair p q = nat_eq p.0 q.0 && nat_eq p.1 q.1

-- each pair has the number of a name, nothing is there twice, and all numbers fit in 32 bits
pub record AreTables (names : List Text) (pairs : List (ℕ × ℕ)) (constants : List Text)
    : Type 0 where
  pub named : AllByRecursion (λ pair. pair.0 < length names) pairs
  pub names_distinct : IsDistinct (pointwise nat_eq) names
  pub pairs_distinct : IsDistinct is_same_pair pairs
  pub constants_distinct : IsDistinct (pointwise nat_eq) constants
  pub names_few : length names ≤ length pairs
  pub pairs_few : length pairs + 1 < 2 ^ 32
  pub constants_few : length constants < 2 ^ 32
