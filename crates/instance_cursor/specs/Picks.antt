-- Lists of picks, one for each depth, in the order in which they are gone through: at each depth
-- from the greatest to 0.
use Rattle.std.specs.Prelude.{◌≡◌, ℕ, zero, suc, Bool, true, List, [], ◌∷◌, ◌++◌, length, if◌then◌else◌}

-- each pick fits behind those before it
abbrev pub EachFits : (List ℕ → ℕ → Bool) → List ℕ → List ℕ → Type 0
EachFits fits front [] = Unit {0}
EachFits fits front (pick ∷ picks) =
    (fits front pick ≡ true) × EachFits fits (front ++ pick ∷ []) picks

-- which pick fits behind those before it, and the bound of the picks at each depth
module _ (fits : List ℕ → ℕ → Bool) (bound : ℕ → ℕ) where
  -- what a function gives for each pick below a bound that fits
  abbrev pub below : (List ℕ → List (List ℕ)) → List ℕ → ℕ → List (List ℕ)
  below deeper front zero = []
  below deeper front (suc pick) =
      (if fits front pick then deeper (front ++ pick ∷ []) else []) ++ below deeper front pick

  -- all that lengthen some picks by so many
  abbrev pub all_picks : ℕ → List ℕ → List (List ℕ)
  all_picks zero front = front ∷ []
  all_picks (suc count) front = below (all_picks count) front (bound (length front))

  -- those of them behind the ones that are lengthened by these picks
  abbrev pub picks_after : List ℕ → List ℕ → List (List ℕ)
  picks_after front [] = []
  picks_after front (pick ∷ picks) = picks_after (front ++ pick ∷ []) picks
      ++ below (all_picks (length picks)) front pick
