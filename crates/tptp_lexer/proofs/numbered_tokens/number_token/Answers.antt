use Rattle.tptp_lexer.specs.Numbering.{number_in}
use Rattle.tptp_lexer.proofs.Numbering.{numbers_stay, numbers_grow}
use Rattle.tptp_lexer.proofs.numbered_tokens.number_token.Goals as goal

pub returns-in_ok-numbered-in-Upper : goal.returns-in_ok-numbered-in-Upper
returns-in_ok-numbered-in-Upper c =
    numbers_grow c.args.tokens.now.tokens c.args.number c.token-token.result c.kind.result c.text-text.result.now c.token-token.ensures
    c.kind.ensures c.text-text.ensures.value c.text-text.ensures.token
    (number_in c.args.numbers.now) (number_in c.numbered.new.numbers) c.requires.before _
    c.in_ok-numbered-in-Upper.ensures.given c.in_ok-numbered-in-Upper.ensures.noted

pub returns-in_default : goal.returns-in_default
returns-in_default c =
    numbers_stay c.args.tokens.now.tokens c.args.number c.token-token.result c.kind.result c.text-text.result.now c.token-token.ensures
    c.kind.ensures c.text-text.ensures.value c.text-text.ensures.token
    (number_in c.args.numbers.now) c.in_default.not-Upper c.requires.before
