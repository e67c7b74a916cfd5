-- Which fact is picked for each premise, and which element for each variable in no premise.
use Rattle.std.specs.Prelude.{ℕ, suc, ◌≡◌, ◌<◌, ◌≤◌, ◌==◌, nat_lt, Bool, true, false, ◌&&◌, List, [], ◌∷◌, ◌++◌, map, length, slice_get, slice_index, Option, Some, None, IfSome, if◌then◌else◌}
use Rattle.std.specs.Option.{option_map}
use Rattle.logic_core.specs.declared.form.Slot.{Slot}
use Rattle.logic_core.specs.declared.form.Slot.TheVariants.{Variable, Constant}
use Rattle.logic_core.specs.declared.form.Atom.{Atom}
use Rattle.fact_store.specs.Facts.{Fact}
use Rattle.instance_cursor.specs.Facts.{signed_number}
use Rattle.instance_cursor.specs.declared.origin.Origin.{Origin}
use Rattle.instance_cursor.specs.Picks.{EachFits}

-- what is gone through: premises with the origins of the variables, facts and a number of elements.
-- There is a depth for each premise, at which a fact's number is picked, and behind them one for
-- each variable in no premise, at which an element is picked
pub record Searched : Type 0 where
  pub premises : List Atom
  pub origins : List Origin
  pub facts : List Fact
  pub elements : ℕ

-- the elements of a fact, if there is one
abbrev pub args_or_none : Option Fact → List ℕ
args_or_none None = []
args_or_none (Some fact) = fact.args

-- the elements of the fact with this number
abbrev pub args_at : List Fact → ℕ → List ℕ
args_at facts pick = args_or_none (slice_get facts pick)

-- the element at an origin
abbrev pub read : Searched → List ℕ → Origin → ℕ
read s picks origin = if nat_lt origin.depth (length s.premises)
    then slice_index (args_at s.facts (slice_index picks origin.depth)) origin.position
    else slice_index picks origin.depth

-- the instance at picks for all depths
abbrev pub instance_at : Searched → List ℕ → List ℕ
instance_at s picks = map (read s picks) s.origins

-- whether this element is at an origin, if there is one
abbrev pub reads : Searched → List ℕ → Option Origin → ℕ → Bool
reads s picks None element = false
reads s picks (Some origin) element = read s picks origin == element

-- whether a slot has this element at picks
abbrev pub is_at : Searched → List ℕ → Slot → ℕ → Bool
is_at s picks (Variable i) element = nat_lt element s.elements && reads s picks (slice_get s.origins i) element
is_at s picks (Constant c) element = element == c

-- whether slots have these elements at picks
abbrev pub are_at : Searched → List ℕ → List Slot → List ℕ → Bool
are_at s picks [] [] = true
are_at s picks [] (element ∷ elements) = false
are_at s picks (slot ∷ slots) [] = false
are_at s picks (slot ∷ slots) (element ∷ elements) =
    is_at s picks slot element && are_at s picks slots elements

-- whether a fact is that of an atom at picks
abbrev pub is_fact_at : Searched → List ℕ → Atom → Option Fact → Bool
is_fact_at s picks atom None = false
is_fact_at s picks atom (Some fact) =
    fact.signed == signed_number atom && are_at s picks atom.args fact.args

-- whether the last of some picks fits at its depth
abbrev pub fits_at : Searched → Option Atom → List ℕ → ℕ → Bool
fits_at s None picks last = nat_lt last s.elements
fits_at s (Some atom) picks last = is_fact_at s picks atom (slice_get s.facts last)

-- whether a pick fits behind those before it
abbrev pub fits : Searched → List ℕ → ℕ → Bool
fits s front pick = fits_at s (slice_get s.premises (length front)) (front ++ pick ∷ []) pick

-- each pick fits behind those before it
abbrev pub AreFitting : Searched → List ℕ → List ℕ → Type 0
AreFitting s front picks = EachFits (fits s) front picks

-- the bound of the picks for a premise, or behind the premises
abbrev pub bound_at : Searched → Option Atom → ℕ
bound_at s None = s.elements
bound_at s (Some atom) = length s.facts

-- the bound of the picks at a depth
abbrev pub bound : Searched → ℕ → ℕ
bound s depth = bound_at s (slice_get s.premises depth)

-- a fact with the symbol of a premise, or an element behind the premises
abbrev pub CandidateAt : Searched → Option Atom → ℕ → Type 0
CandidateAt s None pick = pick < s.elements
CandidateAt s (Some atom) pick =
    option_map (λ fact. fact.signed) (slice_get s.facts pick) ≡ Some (signed_number atom)

-- what may be picked at a depth
abbrev pub IsCandidate : Searched → ℕ → ℕ → Type 0
IsCandidate s depth pick = CandidateAt s (slice_get s.premises depth) pick

-- one more than a number, and 0 for none
abbrev pub behind : Option ℕ → ℕ
behind None = 0
behind (Some number) = suc number

-- the greatest candidate below a number
pub record IsNext (s : Searched) (depth limit : ℕ) (next : Option ℕ) : Type 0 where
  pub found : IfSome next (λ pick. (pick < limit) × IsCandidate s depth pick)
  pub skipped : (pick : ℕ) → behind next ≤ pick → pick < limit → IsCandidate s depth pick → ⊥
