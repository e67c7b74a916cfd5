use Rattle.std.proofs.Common.{arith}
use Rattle.fact_store.proofs.Chained.{latest-none}
use Rattle.fact_store.proofs.chains.Chains.newest.Goals as goal

pub returns-else-key-len : goal.returns-else-key-len
returns-else-key-len c =
    rw (← c.self.view_is) (latest-none _ c.args.key c.self.inside.keys.items c.self.invariant.0.in_range (omega arith))
