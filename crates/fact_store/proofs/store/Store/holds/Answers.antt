use Rattle.std.proofs.Common.{◌∙◌}
use Rattle.fact_store.proofs.Walks.{number_stands}
use Rattle.fact_store.proofs.store.Store.holds.Goals as goal

pub returns : goal.returns
returns c = c.is_some.ensures ∙ number_stands c.args.signed c.args.args.now c.args.self.now.facts _ c.number.ensures
