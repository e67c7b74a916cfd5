-- What a look at the solver's values gives.
use Rattle.std.specs.Prelude.{ℕ, ◌≡◌}
use Rattle.model_search.specs.declared.one_size.Round.{Round}
use Rattle.model_search.specs.declared.one_size.Round.TheVariants.{Model, Batches}

-- a structure has this size
abbrev pub HasSize : ℕ → Round → Type 0
HasSize size (Model m) = m.size ≡ size
HasSize size (Batches places batches) = Unit {0}
