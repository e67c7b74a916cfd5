use Rattle.std.proofs.Common.{arith}
use Rattle.fact_store.proofs.Chained.{AreChained-pop}
use Rattle.fact_store.proofs.chains.Chains.pop.Goals as goal

pub invariant_of-self : goal.invariant_of-self
invariant_of-self c =
    let old = c.self.invariant in
    let chained = rw (c.in-Some-Some.ensures.items, c.in-Some-Some.ensures'.items) at old.0 in
    (AreChained-pop _ _ _ _ _ chained, omega (arith, old.1, c.pop.ensures.len), old.2, omega (arith, old.3, c.pop.ensures.capacity), omega (arith, old.4, c.pop-2.ensures.capacity))
