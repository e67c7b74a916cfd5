use Rattle.std.proofs.Common.{◌≡◌, ◌≤◌, ◌+◌, length, take, sum_by, ap, ◌∙◌, arith}
use Rattle.std.proofs.Common.{take_all}
use Rattle.vernacular_tree.specs.Sizes.{size, end_size}
use Rattle.vernacular_tree.proofs.Rows.{Cs_size}
use Rattle.vernacular_tree.proofs.proof.+count.Goals as goal

pub returns-after-loop-branch : goal.returns-after-loop-branch
returns-after-loop-branch t c =
    let end : end_size c.args.body.now.end ≡ 1 + sum_by size c.in-Cs.branches = ap end_size c.in-Cs.is ∙ Cs_size c.in-Cs.line c.in-Cs.branches in
    let items : sum_by size c.as_slice-branch-items.result.now ≡ sum_by size c.in-Cs.branches = ap (sum_by size) c.as_slice-branch-items.ensures in
    let past : length c.as_slice-branch-items.result.now ≤ c.loop-branch.branch-index = c.loop-branch-test.false in
    let all : take c.loop-branch.branch-index c.as_slice-branch-items.result.now ≡ c.as_slice-branch-items.result.now = search (take_all, past) in
    let sums : sum_by size (take c.loop-branch.branch-index c.as_slice-branch-items.result.now) ≡ sum_by size c.as_slice-branch-items.result.now = ap (sum_by size) all in
    omega arith
