use Rattle.tptp_lexer.specs.Tokens.{Token}
use Rattle.tptp_lexer.proofs.Spelled.{seen_at, kind_seen}
use Rattle.tptp_lexer.proofs.token_list.Tokens.text.Goals as goal

pub returns-clause-value : goal.returns-clause-value
returns-clause-value c = seen_at (λ (t : Token). t.text) c.self.inside.source.now c.self.inside.spans c.as_slice.result.now c.args.self.now c.args.number _ c.self.view_is c.as_slice.ensures c.requires

pub returns-clause-token : goal.returns-clause-token
returns-clause-token c = kind_seen c.self.inside.source.now c.self.inside.spans c.args.self.now c.args.number _ c.self.view_is c.self.invariant.tokens (seen_at (λ (t : Token). t.text) c.self.inside.source.now c.self.inside.spans c.as_slice.result.now c.args.self.now c.args.number _ c.self.view_is c.as_slice.ensures c.requires)
