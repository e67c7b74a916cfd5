use Rattle.tptp_lexer.proofs.Spelled.{name_at, told_so}
use Rattle.tptp_lexer.proofs.token_list.Tokens.name.Goals as goal

pub returns : goal.returns
returns c = told_so c.name_of.result _ _ (name_at c.args.self.now.tokens c.args.number c.kind.result c.text.result.now c.kind.ensures c.text.ensures.value) c.name_of.ensures
