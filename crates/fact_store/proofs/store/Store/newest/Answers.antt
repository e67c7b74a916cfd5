use Rattle.std.proofs.Common.{ap, sym, ◌∙◌}
use Rattle.fact_store.specs.Chains.{latest}
use Rattle.fact_store.proofs.Stored.{symbols_of}
use Rattle.fact_store.proofs.store.Store.newest.Goals as goal

pub returns : goal.returns
returns c = rw (c.newest.ensures, ← c.self.view_is) (ap (latest c.args.signed) (c.self.invariant.signed ∙ sym (symbols_of _ _)))
