use Rattle.std.proofs.Common.{◌≡◌, ◌+◌, ◌*◌, ◌++◌, drop, slice_get, sum_by}
use Rattle.std.specs.List.{AllByRecursion}
use Rattle.tptp_lexer.specs.Written.{joined_texts}
use Rattle.tptp_lexer.proofs.Laws.{led}
use Rattle.vernacular_tree.specs.Sizes.{size, end_size}
use Rattle.proof_text.specs.ScriptOf.{lists_in}
use Rattle.proof_text.specs.Showing.{ListProves}
use Rattle.isar_text.specs.Bodies.{next_text}
use Rattle.isar_text.specs.Named.{BodyFits}
use Rattle.isar_text.specs.Telling.{between, branch_texts}
use Rattle.isar_text.proofs.writer.+body.Given as goal

-- the cases so far and those that follow, which prove the lists that are left
abbrev pub invariant-put_cases-loop-case : goal.invariant-put_cases-loop-case
invariant-put_cases-loop-case l = record {
  same : l.branch ≡ l.fn.branch;
  prove : ListProves l.task (drop l.case l.bodies) (drop l.case (lists_in (slice_get l.fn.branch.context.lines l.line))) l.fn.branch.context;
  fits : AllByRecursion BodyFits (drop l.case l.bodies) → AllByRecursion BodyFits l.bodies;
  inner : l.inner ≡ l.level + 1;
  text : l.out ++ led (between l.level l.case) (next_text l.level)
      (branch_texts (l.level + 1) l.task l.fn.branch.context (drop l.case l.bodies) (drop l.case (lists_in (slice_get l.fn.branch.context.lines l.line))))
      ≡ l.fn.out ++ joined_texts (next_text l.level)
      (branch_texts (l.level + 1) l.task l.fn.branch.context l.bodies (lists_in (slice_get l.fn.branch.context.lines l.line)));
}

-- each call is of a part with fewer rule applications, or of the next function for the same part
abbrev pub decreases-put_body : goal.decreases-put_body
decreases-put_body l = 4 * size l.body.now + 3

abbrev pub decreases-put_end : goal.decreases-put_end
decreases-put_end l = 4 * end_size l.end.now + 2

abbrev pub decreases-put_cases : goal.decreases-put_cases
decreases-put_cases l = 4 * sum_by size l.bodies.now + 5

abbrev pub decreases-put_branch : goal.decreases-put_branch
decreases-put_branch l = 4 * size l.body.now + 4
