use Rattle.std.proofs.Common.{refl, arith}
use Rattle.fact_store.proofs.Stored.{distinct_none}
use Rattle.fact_store.proofs.store.Store.new.Goals as goal

pub invariant_of-result : goal.invariant_of-result
invariant_of-result c =
    let none = distinct_none in
    rw (c.in_ok-new.ensures, c.in_ok-new-2.ensures, c.new-3.ensures.items, c.new-4.ensures.items) (record {
      signed = refl;
      in_buckets = record { keys = refl; laid = refl; some_buckets = omega arith; few_buckets = omega arith };
      distinct = none;
      few = omega arith;
      fits = omega arith;
      symbols_fit = omega arith;
      buckets_fit = omega arith;
      entries_fit = omega arith;
      args_within = omega arith;
      args_fit = omega arith;
    })
