-- When the parts of a store agree.
use Rattle.std.specs.Prelude.{◌≡◌, ℕ, ◌^◌, ◌<◌, ◌≤◌, List, map, length}
use Rattle.fact_store.specs.declared.entry.Entry.{Entry}
use Rattle.fact_store.specs.Chains.{Keyed}
use Rattle.fact_store.specs.Facts.{AreDistinctFacts}
use Rattle.fact_store.specs.Entries.{facts_in, AreLaid, bucket_of}

-- the buckets are those of the facts, and there are some
pub record AreInBuckets (buckets : Keyed) (entries : List Entry) (args : List ℕ) : Type 0 where
  pub keys : buckets.keys ≡ map (bucket_of buckets.width) (facts_in args entries)
  pub laid : AreLaid 0 entries (length args)
  pub some_buckets : 0 < buckets.width
  pub few_buckets : buckets.width < 2 ^ 32

-- both kinds of chains have each fact, no fact stands twice, and the parts have the room that was
-- reserved
pub record AreStored (symbols buckets : Keyed) (entries : List Entry) (args : List ℕ)
    (room args_room capacity args_capacity : ℕ) : Type 0 where
  pub signed : symbols.keys ≡ map (λ entry. entry.signed) entries
  pub in_buckets : AreInBuckets buckets entries args
  pub distinct : AreDistinctFacts (facts_in args entries)
  pub few : room < 2 ^ 32
  pub fits : length entries ≤ room
  pub symbols_fit : room ≤ symbols.room
  pub buckets_fit : room ≤ buckets.room
  pub entries_fit : room ≤ capacity
  pub args_within : length args ≤ args_room
  pub args_fit : args_room ≤ args_capacity
