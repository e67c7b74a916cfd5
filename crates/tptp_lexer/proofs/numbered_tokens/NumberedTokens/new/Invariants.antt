use Rattle.std.proofs.Common.{take}
use Rattle.tptp_lexer.specs.Numbering.{number_in, AreNumbers}
use Rattle.tptp_lexer.proofs.numbered_tokens.NumberedTokens.new.Given as goal

abbrev pub invariant-loop-number : goal.invariant-loop-number
invariant-loop-number l = AreNumbers (take l.number l.tokens.tokens) (number_in l.numbers)
