-- What a store of facts is seen as.
use Rattle.std.specs.Prelude.{◌≡◌, ℕ, Bool, false, ◌&&◌, ◌==◌, nat_eq, List, map, take, Option, None, Some, slice_get, option_and_then}
use Rattle.std.specs.List.{list_any, IsDistinct}
use Rattle.std.specs.Cmp.Lexicographic.{pointwise}
use Rattle.fact_store.specs.Chains.{latest}

-- a fact: a signed symbol, which is twice the symbol and one more for the complement, with its
-- elements
pub record Fact : Type 0 where
  pub signed : ℕ
  pub args : List ℕ

-- a store: its facts in order of addition, how many facts and how many arguments may be added, and
-- the bound of its signed symbols
pub record Facts : Type 0 where
  pub facts : List Fact
  pub spare_facts : ℕ
  pub spare_args : ℕ
  pub signed : ℕ

-- whether a fact is the one with this symbol and these elements
abbrev pub is_fact : ℕ → List ℕ → Fact → Bool
is_fact signed args fact = signed == fact.signed && pointwise nat_eq args fact.args

-- whether the fact with this symbol and these elements stands in the list
abbrev pub stands : ℕ → List ℕ → List Fact → Bool
stands signed args facts = list_any (is_fact signed args) facts

-- the number of the fact with this symbol and these elements; none where it does not stand there
abbrev pub IsNumberOf : ℕ → List ℕ → List Fact → Option ℕ → Type 0
IsNumberOf signed args facts None = stands signed args facts ≡ false
IsNumberOf signed args facts (Some number) =
    slice_get facts number ≡ Some (record { signed = signed; args = args })

-- no fact stands twice
abbrev pub AreDistinctFacts : List Fact → Type 0
AreDistinctFacts facts = IsDistinct (λ f g. is_fact f.signed f.args g) facts

-- the greatest number of a fact with this symbol
abbrev pub newest_of : ℕ → List Fact → Option ℕ
newest_of signed facts = latest signed (map (λ fact. fact.signed) facts)

-- the greatest number below that of a fact, of a fact with the same symbol; none where there is no
-- such fact
abbrev pub older_of : ℕ → List Fact → Option ℕ
older_of fact facts =
    option_and_then (λ f. newest_of f.signed (take fact facts)) (slice_get facts fact)
