-- The words of a text by number: the names that they are, in order of first occurrence.
use Rattle.std.specs.Prelude.{ℕ, Bool, true, false, List, [], ◌∷◌, if◌then◌else◌, map, slice_get, ◌≡◌}
use Rattle.text_core.specs.Names.{Text}
use Rattle.text_core.specs.Numbered.{text_or_empty}
use Rattle.signature.specs.Columns.{name_number, with_name}
use Rattle.tptp_lexer.specs.declared.kind.Kind.{Kind}
use Rattle.tptp_lexer.specs.declared.kind.Kind.TheVariants.{Lower, Quoted}
use Rattle.tptp_lexer.specs.Tokens.{Token, name_of}

-- a lower word or a quoted one
abbrev pub is_word_kind : Kind → Bool
is_word_kind Lower = true
is_word_kind Quoted = true
is_word_kind _ = false

-- the names with that of a token last, where it is a word and new
abbrev pub names_after : List Text → Token → List Text
names_after names t = if is_word_kind t.kind then with_name names (name_of t) else names

-- the names with those of tokens
abbrev pub names_behind : List Text → List Token → List Text
names_behind names [] = names
names_behind names (t ∷ ts) = names_behind (names_after names t) ts

-- the names of the words among tokens
abbrev pub names_in : List Token → List Text
names_in ts = names_behind [] ts

-- the number of a token's name among names
abbrev pub number_among : List Text → Token → ℕ
number_among names t = if is_word_kind t.kind then name_number names (name_of t) else 0

-- the name with a number
abbrev pub name_numbered : List Text → ℕ → Text
name_numbered names n = text_or_empty (slice_get names n)

-- names and numbers that are those of tokens
pub record AreNumbered (ts : List Token) (words : List Text) (numbers : List ℕ) : Type 0 where
  pub names_are : words ≡ names_in ts
  pub numbers_are : numbers ≡ map (number_among words) ts
