use Rattle.proof_plans.specs.Choices.{HasAll, NumberedBelow}
use Rattle.proof_plans.specs.Ways.{IsSplitByLine}
use Rattle.proof_plans.proofs.collect.push_lines.Given as goal

-- the ways by the first lines are there
abbrev pub invariant-loop-line : goal.invariant-loop-line
invariant-loop-line l = HasAll l.fn.choices.items l.choices.items (NumberedBelow l.line (IsSplitByLine l.lines))
