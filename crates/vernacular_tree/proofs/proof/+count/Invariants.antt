use Rattle.std.proofs.Common.{◌≡◌, ◌^◌, ◌+◌, ◌-◌, min, length, take, sum_by}
use Rattle.vernacular_tree.specs.Sizes.{size}
use Rattle.vernacular_tree.proofs.proof.+count.Given as goal

-- the applications of the steps, of the split, and of the branches so far
abbrev pub invariant-loop-branch : goal.invariant-loop-branch
invariant-loop-branch l = l.total ≡ min (length l.body.steps + 1 + sum_by size (take l.branch-index l.branch-items)) (2 ^ 64 - 1)
