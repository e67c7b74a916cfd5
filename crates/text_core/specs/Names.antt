-- Texts as lists of bytes, and classes of bytes.
use Rattle.std.specs.Prelude.{ℕ, Bool, false, ◌&&◌, ◌||◌, nat_le, ◌==◌, List, [], ◌∷◌}
use Rattle.std.specs.List.{list_all}

-- a text, byte by byte
abbrev pub Text : Type 0
Text = List ℕ

-- a to z, A to Z, 0 to 9
abbrev pub is_lower : ℕ → Bool
is_lower b = nat_le 97 b && nat_le b 122

abbrev pub is_upper : ℕ → Bool
is_upper b = nat_le 65 b && nat_le b 90

abbrev pub is_digit : ℕ → Bool
is_digit b = nat_le 48 b && nat_le b 57

-- a letter, a digit or the low line, of which a word goes on
abbrev pub is_word : ℕ → Bool
is_word b = is_lower b || is_upper b || is_digit b || b == 95

-- printable ASCII, from the blank to the tilde
abbrev pub is_printable : ℕ → Bool
is_printable b = nat_le 32 b && nat_le b 126

-- the bytes begin with this byte
abbrev pub begins_with : ℕ → Text → Bool
begins_with b [] = false
begins_with b (c ∷ cs) = c == b

-- a byte of this class, and then letters, digits and low lines
abbrev pub is_word_from : (ℕ → Bool) → Text → Bool
is_word_from first [] = false
is_word_from first (b ∷ bs) = first b && list_all is_word bs
