-- The lists of picks that are left at a depth, and what a step of the search through them did.
use Rattle.std.specs.Prelude.{ℕ, ◌+◌, ◌≡◌, Bool, List, [], ◌∷◌, ◌++◌, length, take, drop, if◌then◌else◌}
use Rattle.std.specs.Bool.{OnTrue, OnFalse}
use Rattle.instance_cursor.specs.Picks.{below, all_picks, picks_after}
use Rattle.instance_cursor.specs.Fitting.{Searched, fits, bound, AreFitting}

-- all with the same picks below a depth
abbrev pub left_from : Searched → ℕ → List ℕ → List (List ℕ)
left_from s depth picks =
    all_picks (fits s) (bound s) (length (drop depth picks)) (take depth picks)

-- those of them with this pick at the depth
abbrev pub left_at : Searched → ℕ → List ℕ → ℕ → List (List ℕ)
left_at s depth picks pick = if fits s (take depth picks) pick
    then all_picks (fits s) (bound s) (length (drop (depth + 1) picks)) (take depth picks ++ pick ∷ [])
    else []

-- those of them with a pick below a limit at the depth
abbrev pub left_below : Searched → ℕ → List ℕ → ℕ → List (List ℕ)
left_below s depth picks limit = below (fits s) (bound s)
    (all_picks (fits s) (bound s) (length (drop (depth + 1) picks))) (take depth picks) limit

-- those of them behind these picks
abbrev pub left_after : Searched → ℕ → List ℕ → List (List ℕ)
left_after s depth picks = picks_after (fits s) (bound s) (take depth picks) (drop depth picks)

-- the first of those that were left is picked, if there is one, with the same picks below the depth
pub record HasPicked (s : Searched) (depth : ℕ) (left : List (List ℕ)) (old new : List ℕ)
    (found : Bool) : Type 0 where
  pub front : take depth new ≡ take depth old
  pub next : OnTrue found (left ≡ new ∷ left_after s depth new)
  pub fitting : OnTrue found (AreFitting s [] new)
  pub over : OnFalse found (left ≡ [])
