use Rattle.std.proofs.Common.{◌≡◌, ◌+◌, ◌*◌, ◌++◌, drop, slice_get, sum_by}
use Rattle.vernacular_tree.specs.Sizes.{size, end_size}
use Rattle.proof_text.specs.ScriptOf.{lists_in}
use Rattle.proof_text.specs.Showing.{ListProves}
use Rattle.english_text.specs.Telling.{branches_text}
use Rattle.english_text.proofs.writer.+body.Given as goal

-- what is appended, and what the other cases add, which prove the lists that are left
abbrev pub invariant-put_branches-loop-case : goal.invariant-put_branches-loop-case
invariant-put_branches-loop-case l = record {
  same : l.context ≡ l.fn.context;
  prove : ListProves l.task (drop l.case l.branches) (drop l.case (lists_in (slice_get l.fn.context.lines l.line))) l.fn.context;
  text : l.out ++ branches_text l.task l.level l.fn.context (drop l.case l.branches) (drop l.case (lists_in (slice_get l.fn.context.lines l.line)))
      ≡ l.fn.out ++ branches_text l.task l.level l.fn.context l.branches (lists_in (slice_get l.fn.context.lines l.line));
}

-- each call is of a part with fewer rule applications, or of the next function for the same part
abbrev pub decreases-put_body : goal.decreases-put_body
decreases-put_body l = 4 * size l.body.now + 3

abbrev pub decreases-put_end : goal.decreases-put_end
decreases-put_end l = 4 * end_size l.end.now + 2

abbrev pub decreases-put_branches : goal.decreases-put_branches
decreases-put_branches l = 4 * sum_by size l.branches.now + 5

abbrev pub decreases-put_branch : goal.decreases-put_branch
decreases-put_branch l = 4 * size l.branch.now + 4
