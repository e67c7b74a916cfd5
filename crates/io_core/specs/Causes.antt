-- Counts of what the outside did, which cause answers.
use Rattle.std.specs.Prelude.{ℕ, ◌+◌, ◌-◌, ◌^◌, ◌≤◌, min}

-- a count after more was added to it; it is kept in 64 bits and stays at its greatest value
abbrev pub raised : ℕ → ℕ → ℕ
raised count more = min (count + more) (2 ^ 64 - 1)

-- the count is greater than before, or is its greatest value
abbrev pub Rose : ℕ → ℕ → Type 0
Rose before now = raised before 1 ≤ now

-- the count rose by more than most, or is its greatest value
abbrev pub RoseAbove : ℕ → ℕ → ℕ → Type 0
RoseAbove most before now = raised before (most + 1) ≤ now
