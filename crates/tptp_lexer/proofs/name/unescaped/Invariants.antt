use Rattle.std.proofs.Common.{length, ◌-◌, ◌≡◌, ◌++◌, drop}
use Rattle.tptp_lexer.specs.Tokens as names
use Rattle.tptp_lexer.proofs.name.unescaped.Given as goal

-- what is read, and what the rest stands for
abbrev pub invariant-loop-at : goal.invariant-loop-at
invariant-loop-at l = l.bytes ++ names.unescaped (drop l.at l.body) ≡ names.unescaped l.body

abbrev pub decreases-loop-at : goal.decreases-loop-at
decreases-loop-at l = length l.body - l.at
