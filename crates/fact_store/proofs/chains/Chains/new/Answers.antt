use Rattle.std.proofs.Common.{arith}
use Rattle.fact_store.proofs.Chained.{AreChained-new}
use Rattle.fact_store.proofs.chains.Chains.new.Goals as goal

pub invariant_of-result : goal.invariant_of-result
invariant_of-result c =
    rw (c.in_ok-no_heads.ensures, c.new.ensures.items, c.new-2.ensures.items) (AreChained-new c.args.width, omega arith, omega arith, omega arith, omega arith)
