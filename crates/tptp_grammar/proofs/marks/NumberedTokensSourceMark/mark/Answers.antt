use Rattle.tptp_grammar.proofs.Marked.{mark_there, mark_upper}
use Rattle.tptp_grammar.proofs.marks.NumberedTokensSourceMark.mark.Goals as goal

pub returns-in-Upper : goal.returns-in-Upper
returns-in-Upper c = mark_upper c.args.self.now c.args.number c.token-token.result c.token-token.ensures c.in-Upper.ensures _ c.word_number.ensures

pub returns-in_default : goal.returns-in_default
returns-in_default c =
    mark_there c.args.self.now c.args.number c.token-token.result c.token-token.ensures _ _ c.kind.ensures c.text.ensures.value _
    (c.mark_of.ensures c.args.self.now)
