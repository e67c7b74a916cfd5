-- What is seen of a text while it is read.
use Rattle.std.specs.Prelude.{ℕ, List}

-- the size, and the constants that have a place, by the numbers of their names
pub record Seen : Type 0 where
  pub size : ℕ
  pub constants : List ℕ
