-- A finite map from the names of files to their bytes.
use Rattle.std.specs.Prelude.{ℕ, List}
use Rattle.std.specs.Ordering.{nat_cmp}
use Rattle.std.specs.Cmp.Lexicographic.{slice_cmp}
use Rattle.std.specs.FinMap as finite

abbrev pub Held : Type 0
Held = finite.FinMap (slice_cmp nat_cmp) (List ℕ)
