use Rattle.std.proofs.Common.{refl}
use Rattle.tptp_lexer.specs.Numbering.{number_in}
use Rattle.tptp_lexer.proofs.Numbering.{word_numbered}
use Rattle.tptp_lexer.proofs.numbered_tokens.NumberedTokens.word_number.Goals as goal

pub returns : goal.returns
returns c =
    rw (← c.self.view_is)
    (word_numbered c.self.inside.tokens.now.tokens c.args.number c.token-token.result _ c.text-text.result.now c.token-token.ensures refl
    c.text-text.ensures.value c.text-text.ensures.token (number_in c.self.inside.numbers) (rw (← c.self.view_is) at c.requires)
    c.self.invariant _ c.number_of.ensures)
