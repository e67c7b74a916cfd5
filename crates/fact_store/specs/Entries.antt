-- How a store of facts is kept: an entry for each fact, whose arguments are a part of one list.
use Rattle.std.specs.Prelude.{◌≡◌, ℕ, ◌+◌, ◌*◌, ◌%◌, ◌/◌, ◌^◌, List, [], ◌∷◌, map, take, drop, fold}
use Rattle.fact_store.specs.declared.entry.Entry.{Entry}
use Rattle.fact_store.specs.Facts.{Fact}

-- the fact of an entry
abbrev pub fact_in : List ℕ → Entry → Fact
fact_in args entry = record {
  signed = entry.signed;
  args = take entry.count (drop entry.start args);
}

-- the facts of all entries
abbrev pub facts_in : List ℕ → List Entry → List Fact
facts_in args entries = map (fact_in args) entries

-- the entries' parts follow one another from a start to an end
abbrev pub AreLaid : ℕ → List Entry → ℕ → Type 0
AreLaid at [] end = at ≡ end
AreLaid at (entry ∷ entries) end = (entry.start ≡ at) × AreLaid (at + entry.count) entries end

-- a number made of the symbol and each element in turn, which spreads over 64 bits
unfoldable pub mixed : ℕ → ℕ → ℕ
mixed so_far next = (so_far + (next + 1)) % 2 ^ 64 * 11400714819323198485 % 2 ^ 64

-- the bucket of a fact among so many: what is mixed of its symbol and elements, by its upper half
unfoldable pub bucket_of : ℕ → Fact → ℕ
bucket_of width fact = fold mixed (mixed 0 fact.signed) fact.args / 2 ^ 32 % width
