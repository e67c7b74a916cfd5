-- What is below a size is kept within it.
use Rattle.std.specs.Prelude.{◌≡◌, ℕ, ◌<◌, nat_lt, Bool, true, false, if◌then◌else◌}
use Rattle.std.proofs.Common.{refl, arith}
use Rattle.finite_model.specs.Coded.{within_size}

-- a number below the size is kept
pub kept_same : (size x : ℕ) → x < size → within_size size x ≡ x
kept_same size x below = by (nat_lt x size) refl
  where
    by : (b : Bool) → nat_lt x size ≡ b → (if b then x else 0) ≡ x
    by true e = refl
    by false e = absurd (grind (arith, e, below))
