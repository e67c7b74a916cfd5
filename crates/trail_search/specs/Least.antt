-- The fewest rule applications with which there is a proof from a context.
use Rattle.std.specs.Prelude.{ℕ, ◌≤◌, ◌≡◌}
use Rattle.vernacular_tree.specs.Contexts.{Task}
use Rattle.vernacular_tree.specs.Rules.{IsProof}
use Rattle.vernacular_tree.specs.Sizes.{size}
use Rattle.vernacular_tree.specs.Barren.{IsLeast}
use Rattle.vernacular_tree.specs.declared.context.Context.{Context}
use Rattle.vernacular_tree.specs.declared.tree.Body.{Body}

-- no proof from the context has so many rule applications or fewer
abbrev pub HasNone : Task → Context → ℕ → Type 0
HasNone task context most = (body : Body) → IsProof task context body → size body ≤ most → ⊥

-- a smallest proof from the context has so many rule applications
pub record LeastFrom (task : Task) (context : Context) (n : ℕ) : Type 0 where
  pub body : Body
  pub least : IsLeast task context body
  pub size_is : size body ≡ n
