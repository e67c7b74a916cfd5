use Rattle.std.proofs.Common.{◌≡◌, ◌+◌, ◌*◌, ◌++◌, drop, slice_get, sum_by}
use Rattle.vernacular_tree.specs.Sizes.{size, end_size}
use Rattle.proof_text.specs.ScriptOf.{lists_in}
use Rattle.proof_text.specs.Showing.{ListProves, each_case}
use Rattle.proof_text.proofs.proof_script.+body.Given as goal

-- the cases so far and those that follow, which prove the lists that are left
abbrev pub invariant-cases_of-loop-case : goal.invariant-cases_of-loop-case
invariant-cases_of-loop-case l = record {
  same : l.context ≡ l.fn.context;
  prove : ListProves l.task (drop l.case l.branches) (drop l.case (lists_in (slice_get l.fn.context.lines l.line))) l.fn.context;
  text : l.cases ++ each_case l.edition l.task l.fn.context (drop l.case l.branches) (drop l.case (lists_in (slice_get l.fn.context.lines l.line)))
      ≡ each_case l.edition l.task l.fn.context l.branches (lists_in (slice_get l.fn.context.lines l.line));
}

-- each call is of a part with fewer rule applications, or of the next function for the same part
abbrev pub decreases-body_of : goal.decreases-body_of
decreases-body_of l = 4 * size l.body.now + 3

abbrev pub decreases-end_of : goal.decreases-end_of
decreases-end_of l = 4 * end_size l.end.now + 2

abbrev pub decreases-cases_of : goal.decreases-cases_of
decreases-cases_of l = 4 * sum_by size l.branches.now + 5

abbrev pub decreases-case_of : goal.decreases-case_of
decreases-case_of l = 4 * size l.branch.now + 4
