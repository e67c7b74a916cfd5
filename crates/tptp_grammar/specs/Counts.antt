-- What the watcher's data keep, beside the bindings, the oldest first: how many there are of each
-- variable, and whether their levels never fall.
use Rattle.std.specs.Prelude.{◌≡◌, ℕ, ◌≤◌, ◌==◌, List, slice_index, count_by}
use Rattle.std.specs.List.{AllPairs}
use Rattle.tptp_grammar.specs.declared.scopes.Binding.{Binding}

-- how many bindings have this variable
abbrev pub count_of : ℕ → List Binding → ℕ
count_of number bindings = count_by (λ b. b.variable == number) bindings

-- at each number is how many bindings have this variable; beyond the end there are none
abbrev pub AreCounts : List ℕ → List Binding → Type 0
AreCounts counts bindings = (number : ℕ) → slice_index counts number ≡ count_of number bindings

-- no binding has a level below that of an older one
abbrev pub NeverFall : List Binding → Type 0
NeverFall bindings = AllPairs (λ older newer. older.level ≤ newer.level) bindings
