-- What a searcher is seen as.
use Rattle.std.specs.Prelude.{ℕ, List, Option}
use Rattle.vernacular_tree.specs.declared.tree.Node.{Node}
use Rattle.coherent_form.specs.Tasks.{CitedTask}

-- a searcher: its task; the greatest bound of a search, and the greatest numbers of facts and of
-- their arguments in a context that is lent; what the last search found, and the rule applications
-- of that proof in preorder
pub record Searched : Type 0 where
  pub task : CitedTask
  pub most : ℕ
  pub facts : ℕ
  pub args : ℕ
  pub found : Option ℕ
  pub nodes : List Node
