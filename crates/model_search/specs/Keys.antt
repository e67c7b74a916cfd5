-- What the variables of the clauses stand for.
use Rattle.std.specs.Prelude.{ℕ, ◌==◌, ◌≡◌, Bool, true, List, Some, slice_get}
use Rattle.std.specs.List.{AllByRecursion, list_all}
use Rattle.finite_model.specs.Connectives.{are_same}
use Rattle.model_search.specs.Candidates.{Candidate, holds_in}
use Rattle.model_search.specs.declared.key.Ground.{Ground}
use Rattle.model_search.specs.declared.key.Key.{Key}
use Rattle.model_search.specs.declared.key.Key.TheVariants.{Fact, Place, All}

-- whether an atom at elements is true
abbrev pub ground_true : Candidate → Ground → Bool
ground_true c g = are_same (holds_in c g.symbol g.elements) g.positive

-- all of several are
abbrev pub AllTrue : Candidate → List Ground → Type 0
AllTrue c grounds = AllByRecursion (λ g. ground_true c g ≡ true) grounds

-- whether what a key says is true
abbrev pub key_true : Candidate → Key → Bool
key_true c (Fact g) = ground_true c g
key_true c (Place constant element) = c.place constant == element
key_true c (All grounds) = list_all (ground_true c) grounds.items

-- each variable is true exactly where what its key says is
abbrev pub Agrees : (ℕ → Bool) → Candidate → List Key → Type 0
Agrees sigma c keys =
    (v : ℕ) (key : Key) → slice_get keys v ≡ Some key → sigma v ≡ key_true c key
