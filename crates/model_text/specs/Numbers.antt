-- The number that digits write, where it is below 2 ^ 32.
use Rattle.std.specs.Prelude.{ℕ, ◌+◌, ◌*◌, ◌-◌, ◌==◌, ◌||◌, nat_le, Bool, false, [], ◌∷◌, Option, Some, None, if◌then◌else◌}
use Rattle.text_core.specs.Names.{Text}

-- the greatest number that a text may have, 2 ^ 32 - 1
abbrev pub most_number : ℕ
most_number = 4294967295

-- the number that digits write when they follow those of n; 48 is the digit 0
abbrev pub number_after : ℕ → Text → ℕ
number_after n [] = n
number_after n (b ∷ bs) = number_after (n * 10 + (b - 48)) bs

-- the number that digits write, where it may stand in a text
abbrev pub number_in : Text → Option ℕ
number_in text =
    if nat_le (number_after 0 text) most_number then Some (number_after 0 text) else None

-- a number and one more digit, where it may stand in a text
abbrev pub number_next : ℕ → ℕ → Option ℕ
number_next n b =
    if nat_le (n * 10 + (b - 48)) most_number then Some (n * 10 + (b - 48)) else None

-- an integer with a sign, a plus (43) or a minus (45), is no number
abbrev pub is_signed : Text → Bool
is_signed [] = false
is_signed (b ∷ bs) = b == 43 || b == 45
