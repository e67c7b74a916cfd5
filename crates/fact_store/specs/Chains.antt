-- Numbers of facts in chains: each chain goes from the newest fact with a key to the oldest.
use Rattle.std.specs.Prelude.{◌≡◌, ℕ, suc, ◌<◌, Bool, ◌==◌, List, [], ◌∷◌, length, take, get_or, Option, None, Some, if◌then◌else◌}
use Rattle.std.specs.List.{AllByRecursion}

-- a number in the rest of a list, as one in the whole list; where there is none, 0 if the first
-- item is wanted
abbrev pub or_first : Bool → Option ℕ → Option ℕ
or_first wanted None = if wanted then Some 0 else None
or_first wanted (Some number) = Some (suc number)

-- the greatest number of a key
unfoldable pub latest : ℕ → List ℕ → Option ℕ
latest key [] = None
latest key (k ∷ keys) = or_first (k == key) (latest key keys)

-- what chains are seen as: the keys in order of addition, how many keys there may be, and for how
-- many there is room
pub record Keyed : Type 0 where
  pub keys : List ℕ
  pub width : ℕ
  pub room : ℕ

-- each head is the greatest number of its key, and each number leads to the greatest smaller one
-- with the same key
pub record AreChained (heads olds : List (Option ℕ)) (keys : List ℕ) : Type 0 where
  pub in_range : AllByRecursion (λ key. key < length heads) keys
  pub one_each : length olds ≡ length keys
  pub head : (key : ℕ) → key < length heads → get_or heads key None ≡ latest key keys
  pub older : (number : ℕ) → number < length keys
      → get_or olds number None ≡ latest (get_or keys number 0) (take number keys)
