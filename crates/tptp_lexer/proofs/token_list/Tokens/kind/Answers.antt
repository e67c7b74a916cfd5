use Rattle.tptp_lexer.specs.Tokens.{Token}
use Rattle.tptp_lexer.proofs.Spelled.{seen_at}
use Rattle.tptp_lexer.proofs.token_list.Tokens.kind.Goals as goal

pub returns : goal.returns
returns c = seen_at (λ (t : Token). t.kind) c.self.inside.source.now c.self.inside.spans c.as_slice.result.now c.args.self.now c.args.number _ c.self.view_is c.as_slice.ensures c.requires
