-- A proof as the list of its rule applications, each before those that it leads to, the branches of
-- a split in order; and which proofs a `Proof` may hold.
use Rattle.std.specs.Prelude.{ℕ, ◌+◌, ◌≤◌, ◌≡◌, List, [], ◌∷◌, ◌++◌, map}
use Rattle.text_core.specs.declared.limits.TheConstants.{MOST_APPLICATIONS, MOST_SPLITS}
use Rattle.vernacular_tree.specs.Sizes.{size, nesting}
use Rattle.vernacular_tree.specs.declared.tree.Mp.{Mp}
use Rattle.vernacular_tree.specs.declared.tree.Body.{Body}
use Rattle.vernacular_tree.specs.declared.tree.End.{End, As, Efq, Cs', Row_of-Body, end_of-Body, more_of-Body}
use Rattle.vernacular_tree.specs.declared.tree.Node.{Node}
use Rattle.vernacular_tree.specs.declared.tree.Node.TheVariants as node

abbrev pub mp_node : Mp → Node
mp_node step = node.Mp step.form step.args

abbrev pub branch_count : {n : _} → Row_of-Body n → ℕ
branch_count end_of-Body = 0
branch_count (more_of-Body steps end rest) = 1 + branch_count rest

abbrev mutual
  -- a split's node tells how many branches follow
  pub end_nodes : End → List Node
  end_nodes (As disjunct args) = node.As disjunct args ∷ []
  end_nodes Efq = node.Efq ∷ []
  end_nodes (Cs' line _ branches) = node.Cs line (branch_count branches) ∷ branch_nodes branches

  pub branch_nodes : {n : _} → Row_of-Body n → List Node
  branch_nodes end_of-Body = []
  branch_nodes (more_of-Body steps end rest) =
      (map mp_node steps ++ end_nodes end) ++ branch_nodes rest

-- the applications of a proof in preorder
abbrev pub preorder : Body → List Node
preorder body = map mp_node body.steps ++ end_nodes body.end

-- a `Proof` has not too many rule applications, and not too many splits around one of them
pub record IsBounded (body : Body) : Type 0 where
  pub small : size body ≤ MOST_APPLICATIONS
  pub shallow : nesting body ≤ MOST_SPLITS

-- the nodes are the whole preorder of a tree that a `Proof` may hold
pub record IsTree (nodes : List Node) : Type 0 where
  pub tree : Body
  pub preorder_is : preorder tree ≡ nodes
  pub bounded : IsBounded tree
