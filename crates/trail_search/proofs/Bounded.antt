-- A proof is nested no deeper than it is large.
use Rattle.std.proofs.Common.{◌≤◌, arith}
use Rattle.vernacular_tree.specs.Preorders.{IsBounded}
use Rattle.vernacular_tree.specs.Sizes.{size, sizes, end_size, end_nesting, greatest_nesting}
use Rattle.vernacular_tree.specs.declared.tree.Body.{Body}
use Rattle.vernacular_tree.specs.declared.tree.End.{End, As, Efq, Cs', Row_of-Body, end_of-Body, more_of-Body}

mutual
  -- an end
  end_shallow : (e : End) → end_nesting e ≤ end_size e
  end_shallow (As disjunct args) = omega arith
  end_shallow Efq = omega arith
  end_shallow (Cs' line _ branches) = let inner = row_shallow branches in omega arith

  -- the branches of a split
  row_shallow : {n : _} (row : Row_of-Body n) → greatest_nesting row ≤ sizes row
  row_shallow end_of-Body = omega arith
  row_shallow (more_of-Body steps end rest) =
      let first = end_shallow end in
      let others = row_shallow rest in omega arith

-- a proof with few rule applications is within the bounds of one that is held
pub small_bounded : (body : Body) → size body ≤ 200 → IsBounded body
small_bounded body small =
    let shallow = end_shallow body.end in
    record { small = omega arith; shallow = omega arith }
