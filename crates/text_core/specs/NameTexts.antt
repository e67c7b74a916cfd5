-- Which texts may be names, and which of them name variables.
use Rattle.std.specs.Prelude.{◌≤◌, Bool, [], ◌∷◌}
use Rattle.text_core.specs.Names.{Text, is_upper, is_word_from}

-- each byte is printable ASCII, from the blank to the tilde
abbrev pub IsPrintable : Text → Type 0
IsPrintable [] = Unit {0}
IsPrintable (b ∷ bs) = (32 ≤ b) × (b ≤ 126) × IsPrintable bs

-- a name has one or more bytes, each printable ASCII
abbrev pub IsNameText : Text → Type 0
IsNameText [] = ⊥
IsNameText (b ∷ bs) = IsPrintable (b ∷ bs)

-- a word that names a variable (the TPTP syntax, upper_word)
abbrev pub is_upper_word : Text → Bool
is_upper_word text = is_word_from is_upper text
