-- The entries of a hash table of texts, as a finite map.
use Rattle.std.specs.Prelude.{ℕ, List, [], ◌∷◌}
use Rattle.std.specs.Global.{Vec}
use Rattle.std.specs.FinMap as finite
use Rattle.io_core.specs.Held.{Held}

-- the texts of the entries, in their order
abbrev pub texts_of : List (Vec ℕ × Vec ℕ) → List (List ℕ × List ℕ)
texts_of [] = []
texts_of (e ∷ es) = (e.0.items, e.1.items) ∷ texts_of es

-- each name of the entries, with its bytes
abbrev pub held_by : List (Vec ℕ × Vec ℕ) → Held
held_by es = finite.from_entries (texts_of es)
