-- What the record of a proof that was found is seen as.
use Rattle.std.specs.Prelude.{ℕ, List}
use Rattle.vernacular_tree.specs.declared.tree.Node.{Node}

-- rule applications in the order in which they were noted, and for how many there is room in all
pub record Recorded : Type 0 where
  pub nodes : List Node
  pub room : ℕ
