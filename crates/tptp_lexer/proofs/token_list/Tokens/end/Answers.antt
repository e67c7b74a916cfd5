use Rattle.tptp_lexer.proofs.Spelled.{end_seen}
use Rattle.tptp_lexer.proofs.token_list.Tokens.end.Goals as goal

pub returns : goal.returns
returns c = end_seen c.self.inside.source.now c.self.inside.spans c.as_slice.result.now c.args.self.now c.args.number _ c.self.view_is c.as_slice.ensures c.requires c.self.invariant.within
