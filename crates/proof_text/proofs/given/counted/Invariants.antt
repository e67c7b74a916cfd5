use Rattle.std.proofs.Common.{◌≡◌, ◌++◌, ◌+◌, ◌-◌}
use Rattle.vernacular_tree.specs.Contexts.{counted}
use Rattle.proof_text.proofs.given.counted.Given as goal

-- the numbers so far, and those that follow
abbrev pub invariant-loop-number : goal.invariant-loop-number
invariant-loop-number l = l.numbers ++ counted l.number (l.first + l.count - l.number) ≡ counted l.first l.count
