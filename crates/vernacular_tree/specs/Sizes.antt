-- How many rule applications a proof has, and how deep its splits are nested.
use Rattle.std.specs.Prelude.{ℕ, ◌+◌, max, length}
use Rattle.vernacular_tree.specs.declared.tree.Body.{Body}
use Rattle.vernacular_tree.specs.declared.tree.End.{End, As, Efq, Cs', Row_of-Body, end_of-Body, more_of-Body}

abbrev mutual
  -- an end counts 1, and a split besides it each application of its branches
  pub end_size : End → ℕ
  end_size (As disjunct args) = 1
  end_size Efq = 1
  end_size (Cs' line _ branches) = 1 + sizes branches

  pub sizes : {n : _} → Row_of-Body n → ℕ
  sizes end_of-Body = 0
  sizes (more_of-Body steps end rest) = length steps + end_size end + sizes rest

-- the number of rule applications, summed over the branches
abbrev pub size : Body → ℕ
size body = length body.steps + end_size body.end

abbrev mutual
  -- how many splits are around the deepest application
  pub end_nesting : End → ℕ
  end_nesting (As disjunct args) = 0
  end_nesting Efq = 0
  end_nesting (Cs' line _ branches) = 1 + greatest_nesting branches

  pub greatest_nesting : {n : _} → Row_of-Body n → ℕ
  greatest_nesting end_of-Body = 0
  greatest_nesting (more_of-Body steps end rest) = max (end_nesting end) (greatest_nesting rest)

abbrev pub nesting : Body → ℕ
nesting body = end_nesting body.end
