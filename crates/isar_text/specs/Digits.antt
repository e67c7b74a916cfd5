-- Which texts are hexadecimal digits, two for each byte.
use Rattle.std.specs.Prelude.{ℕ, ◌+◌, ◌*◌, nat_le, Bool, true, false, ◌&&◌, ◌||◌, [], ◌∷◌}
use Rattle.text_core.specs.Names.{Text, is_digit, is_printable, is_word}
use Rattle.isar_text.specs.declared.hex.Class.{Class}
use Rattle.isar_text.specs.declared.hex.Class.TheVariants.{Printable, Word}
use Rattle.isar_text.specs.Names.{digit_value}

-- the byte is of the class
abbrev pub has : Class → ℕ → Bool
has Printable b = is_printable b
has Word b = is_word b

-- a digit: 0 (48) to 9, or a (97) to f
abbrev pub is_hex : ℕ → Bool
is_hex b = is_digit b || (nat_le 97 b && nat_le b 102)

-- the byte of two digits
abbrev pub byte_of : ℕ → ℕ → ℕ
byte_of high low = digit_value high * 16 + digit_value low

-- two digits whose byte passes the test
abbrev pub is_pair : (ℕ → Bool) → ℕ → ℕ → Bool
is_pair test high low = is_hex high && is_hex low && test (byte_of high low)

-- two digits for each byte, and each byte passes the test
abbrev pub are_pairs : (ℕ → Bool) → Text → Bool
are_pairs test [] = true
are_pairs test (b ∷ []) = false
are_pairs test (b ∷ c ∷ rest) = is_pair test b c && are_pairs test rest
