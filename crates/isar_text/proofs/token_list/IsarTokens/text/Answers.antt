use Rattle.isar_text.specs.Tokens.{Token}
use Rattle.isar_text.proofs.Listed.{seen_at}
use Rattle.isar_text.proofs.token_list.IsarTokens.text.Goals as goal

pub returns : goal.returns
returns c = seen_at (λ (t : Token). t.text) c.self.inside.task.now c.self.inside.source.now c.self.inside.spans c.as_slice.result.now c.args.self.now c.args.number _ c.self.view_is c.as_slice.ensures c.requires
