use Rattle.std.proofs.Common.{◌≡◌, take}
use Rattle.vernacular_tree.proofs.tree_copy.+copy.Given as goal

-- the copies so far are the first branches
abbrev pub invariant-copy_branches-loop-branch : goal.invariant-copy_branches-loop-branch
invariant-copy_branches-loop-branch l = l.copies ≡ take l.branch-index l.branches
