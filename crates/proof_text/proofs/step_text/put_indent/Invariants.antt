use Rattle.std.proofs.Common.{◌≡◌, ◌++◌}
use Rattle.proof_text.specs.Canonical.{indent}
use Rattle.proof_text.proofs.step_text.put_indent.Given as goal

-- what is appended, and the blanks of the levels that are left
abbrev pub invariant-loop-left : goal.invariant-loop-left
invariant-loop-left l = l.out ++ indent l.left ≡ l.fn.out ++ indent l.level

abbrev pub decreases-loop-left : goal.decreases-loop-left
decreases-loop-left l = l.left
