use Rattle.std.proofs.Common.{◌≡◌, ◌++◌, drop}
use Rattle.isar_text.specs.Bodies.{labels_text}
use Rattle.isar_text.proofs.proof_lines.put_labels.Given as goal

-- the labels so far, and those that follow
abbrev pub invariant-loop-line : goal.invariant-loop-line
invariant-loop-line l = l.out ++ labels_text (drop l.line-index l.lines) ≡ l.fn.out ++ labels_text l.lines
