use Rattle.tptp_lexer.proofs.Spelled.{token_seen, token_kind}
use Rattle.std.proofs.Common.{ap, sym, ◌∙◌, Some}
use Rattle.tptp_lexer.proofs.token_list.Tokens.token.Goals as goal

pub new-requires : goal.new-requires
new-requires c = token_kind c.self.inside.source.now c.self.inside.spans c.as_slice.result.now c.args.self.now c.args.number _ c.self.view_is c.self.invariant.tokens c.as_slice.ensures c.requires

pub returns : goal.returns
returns c = token_seen c.self.inside.source.now c.self.inside.spans c.as_slice.result.now c.args.self.now c.args.number _ c.self.view_is c.as_slice.ensures c.requires ∙ ap Some (sym c.new.ensures)
