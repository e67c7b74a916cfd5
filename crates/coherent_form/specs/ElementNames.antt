-- The names with which elements are printed.
use Rattle.std.specs.Prelude.{ℕ, zero, suc, ◌+◌, ◌==◌, if◌then◌else◌, nat_lt, max, List, [], ◌∷◌, ◌++◌, length, slice_get}
use Rattle.std.specs.Fmt.{decimal}
use Rattle.text_core.specs.Names.{Text}
use Rattle.text_core.specs.Numbered.{text_or_empty}

-- how many letters w (119) a name begins with
abbrev pub leading : Text → ℕ
leading [] = 0
leading (b ∷ bs) = if b == 119 then 1 + leading bs else 0

-- the most of any name
abbrev pub most_leading : List Text → ℕ
most_leading [] = 0
most_leading (name ∷ names) = max (leading name) (most_leading names)

-- as many letters w
abbrev pub letters : ℕ → Text
letters zero = []
letters (suc n) = 119 ∷ letters n

-- the shortest word of letters w with which no constant begins: one more than any begins with
abbrev pub prefix : List Text → Text
prefix constants = letters (most_leading constants + 1)

-- a constant is printed by its name, and any other element by the prefix and its number
abbrev pub element_name : List Text → ℕ → Text
element_name constants element =
    if nat_lt element (length constants) then text_or_empty (slice_get constants element)
    else prefix constants ++ decimal element
