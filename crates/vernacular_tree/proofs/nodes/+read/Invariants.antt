use Rattle.std.proofs.Common.{◌≡◌, ◌++◌, ◌+◌, ◌*◌, length, flat_map}
use Rattle.vernacular_tree.specs.Preorders.{preorder}
use Rattle.vernacular_tree.specs.Readings.{AreShallow}
use Rattle.vernacular_tree.proofs.nodes.+read.Given as goal

abbrev pub decreases-read_branches : goal.decreases-read_branches
decreases-read_branches l = 3 * l.levels + 2

abbrev pub decreases-read_body : goal.decreases-read_body
decreases-read_body l = 3 * l.levels + 1

abbrev pub decreases-read_end : goal.decreases-read_end
decreases-read_end l = 3 * l.levels

-- the nodes of the branches so far, then the rest
abbrev pub invariant-read_branches-loop : goal.invariant-read_branches-loop
invariant-read_branches-loop l = record {
  front : l.nodes ≡ flat_map preorder l.branches ++ l.rest;
  many : length l.branches ≡ l.counter;
  shallow : AreShallow l.levels l.branches;
}
