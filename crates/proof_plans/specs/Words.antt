-- Words of branches, the innermost case first.
use Rattle.std.specs.Prelude.{ℕ, ◌≡◌, List, ◌++◌}

-- a list is the end of another one
abbrev pub IsEndOf : List ℕ → List ℕ → Type 0
IsEndOf end word = (more : List ℕ) × (word ≡ more ++ end)
