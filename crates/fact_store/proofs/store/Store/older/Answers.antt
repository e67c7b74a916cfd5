use Rattle.std.proofs.Common.{ap, sym, ◌∙◌, arith, take, get_or}
use Rattle.fact_store.specs.Chains.{latest}
use Rattle.fact_store.proofs.Stored.{older_seen, older_past}
use Rattle.fact_store.proofs.store.Store.older.Goals as goal

pub returns-then-fact-len : goal.returns-then-fact-len
returns-then-fact-len c =
    rw (c.older.ensures, ← c.self.view_is)
    (ap (λ keys. latest (get_or keys c.args.fact 0) (take c.args.fact keys)) c.self.invariant.signed ∙ sym (older_seen _ c.self.inside.entries.items c.args.fact (omega arith)))

pub returns-else-fact-len : goal.returns-else-fact-len
returns-else-fact-len c = rw (← c.self.view_is) (older_past _ c.self.inside.entries.items c.args.fact (omega arith))
