use Rattle.std.proofs.Common.{◌≡◌, ◌≤◌, map, take}
use Rattle.fact_store.specs.Entries.{facts_in, bucket_of}
use Rattle.fact_store.proofs.walk.in_buckets.Given as goal

-- the entries so far are in their buckets
abbrev pub invariant-loop-entry : goal.invariant-loop-entry
invariant-loop-entry l = record {
  keys : l.buckets.keys ≡ map (bucket_of l.width) (facts_in l.args (take l.entry-index l.entries));
  width : l.buckets.width ≡ l.width;
  room : l.width ≤ l.buckets.room;
}
