use Rattle.std.proofs.Common.{◌≡◌, ◌++◌, ◌+◌, ◌*◌, take, sum_by, flat_map}
use Rattle.vernacular_tree.specs.Sizes.{size}
use Rattle.vernacular_tree.specs.Preorders.{preorder}
use Rattle.vernacular_tree.proofs.nodes.+push.Given as goal

-- the nodes of the first branches are appended
abbrev pub invariant-push_branches-loop-branch : goal.invariant-push_branches-loop-branch
invariant-push_branches-loop-branch l = l.nodes ≡ l.fn.nodes ++ flat_map preorder (take l.branch-index l.branches)

abbrev pub decreases-push_body : goal.decreases-push_body
decreases-push_body l = 2 * size l.body.now

abbrev pub decreases-push_branches : goal.decreases-push_branches
decreases-push_branches l = 2 * sum_by size l.branches.now + 1
