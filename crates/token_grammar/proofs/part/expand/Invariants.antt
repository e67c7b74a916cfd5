use Rattle.std.proofs.Common.{◌≡◌, ◌++◌, reverse, drop}
use Rattle.token_grammar.proofs.part.expand.Given as goal

abbrev pub invariant-loop-number : goal.invariant-loop-number
invariant-loop-number g l = l.stack.items ≡ l.fn.stack.items ++ reverse (drop l.number l.row)
