-- Witnesses near the first elements. Elements that no clause told apart may be exchanged: so a
-- witness is one of the first elements, which were told apart, or the next one.
use Rattle.std.specs.Prelude.{ℕ, ◌+◌, ◌<◌, ◌≤◌, ◌≡◌, max, List, [], ◌∷◌, ◌++◌, length}
use Rattle.std.specs.List.{AllByRecursion}
use Rattle.logic_core.specs.Forms.{AtomTrue, FormTrue}
use Rattle.logic_core.specs.declared.form.Form.{Form}
use Rattle.model_search.specs.Candidates.{Candidate, world}
use Rattle.model_search.specs.Orders.{AreFormedRules}
use Rattle.model_search.specs.Rules.{SomeTrue, IsPlacedBelow, SuitsRules}
use Rattle.model_search.specs.Sheets.{Drawn, IsSuited}
use Rattle.model_search.specs.declared.rule.Rule.{Rule}

-- each is one of the first elements or the next one, and adds to the first ones
abbrev pub AreNear : ℕ → List ℕ → Type 0
AreNear near [] = Unit {0}
AreNear near (x ∷ xs) = (x ≤ near) × AreNear (max near (x + 1)) xs

-- at these values some disjunct of the form is true, with witnesses that are near
pub record NearConclusion (size near : ℕ) (form : Form) (values : List ℕ) (c : Candidate)
    : Type 0 where
  pub witnesses : List ℕ
  pub count : length witnesses ≡ form.existentials
  pub below : AllByRecursion (λ x. x < size) witnesses
  pub are_near : AreNear near witnesses
  pub holds : SomeTrue c (values ++ witnesses) form.disjuncts

-- where the premises are true
abbrev pub NearTrue : ℕ → ℕ → Form → List ℕ → Candidate → Type 0
NearTrue size near form values c =
    AllByRecursion (AtomTrue (world c) values) form.premises
    → NearConclusion size near form values c

-- two candidates are the same at the first elements, and at the first constants
pub record IsSame (count near : ℕ) (c d : Candidate) : Type 0 where
  pub places : (k : ℕ) → k < count → c.place k ≡ d.place k
  pub facts : (n : ℕ) (xs : List ℕ) → AllByRecursion (λ x. x < near) xs
      → c.holds n xs ≡ d.holds n xs

-- a candidate suits the rules, its first constants stand for the first elements, and the clauses
-- are true of each candidate that is the same at these
pub record NearSuited (size : ℕ) (rules : List Rule) (count near : ℕ) (s : Drawn)
    : Type 0 where
  pub candidate : Candidate
  pub suits : SuitsRules size rules candidate
  pub places : (k : ℕ) → k < count → candidate.place k < near
  pub suited : (d : Candidate) → IsPlacedBelow size d → IsSame count near candidate d
      → IsSuited d s

-- there is one, where any candidate suits the rules
abbrev pub IsNearFair : ℕ → List Rule → ℕ → ℕ → Drawn → Type 0
IsNearFair size rules count near s =
    (c : Candidate) → SuitsRules size rules c → NearSuited size rules count near s

-- the form is true of each candidate that suits the rules
abbrev pub IsRuled : ℕ → List Rule → Form → Type 0
IsRuled size rules form = (c : Candidate) → SuitsRules size rules c → FormTrue (world c) form

-- further clauses leave it so, with more first elements
abbrev pub GoesNear : ℕ → List Rule → ℕ → ℕ → Drawn → Drawn → Type 0
GoesNear size rules near more old new = (count : ℕ) → AreFormedRules count rules
    → IsNearFair size rules count near old → IsNearFair size rules count more new

-- the same of a form that is true of each candidate that suits the rules
abbrev pub GoesNearBy : ℕ → Form → ℕ → ℕ → Drawn → Drawn → Type 0
GoesNearBy size form near more old new = (rules : List Rule) → IsRuled size rules form
    → GoesNear size rules near more old new
