use Rattle.std.proofs.Common.{arith}
use Rattle.tptp_lexer.proofs.Numbering.{few_tokens}
use Rattle.tptp_lexer.proofs.numbered_tokens.NumberedTokens.new.Goals as goal

pub overflow_cast-number-end : goal.overflow_cast-number-end
overflow_cast-number-end c =
    omega (arith, few_tokens _ _ c.source_len.ensures.tokens, c.source_len.ensures.short, c.len-number-end.ensures)
