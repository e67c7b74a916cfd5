use Rattle.std.proofs.Common.{◌≡◌, ◌++◌, ◌+◌, ◌-◌}
use Rattle.std.specs.List.{flat_map, range_with_len}
use Rattle.problem_suite.specs.MadeTexts.{implication_text}
use Rattle.problem_suite.proofs.made.put_implications.Given as goal

-- what is there, and what follows
abbrev pub invariant-loop-number : goal.invariant-loop-number
invariant-loop-number l = l.out ++ flat_map implication_text (range_with_len l.number (l.count + 1 - l.number)) ≡ l.fn.out ++ flat_map implication_text (range_with_len 1 l.count)
