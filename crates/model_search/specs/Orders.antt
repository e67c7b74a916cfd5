-- Constants and parameters in order, so that candidates which differ by the names of their elements
-- alone are sought once.
use Rattle.std.specs.Prelude.{ℕ, suc, ◌<◌, ◌≡◌, List}
use Rattle.std.specs.List.{AllByRecursion}
use Rattle.logic_core.specs.Forms.{IsWellFormed}
use Rattle.model_search.specs.Candidates.{Candidate}
use Rattle.model_search.specs.Rules.{SuitsRules}
use Rattle.model_search.specs.Sheets.{Drawn, IsSuited}
use Rattle.model_search.specs.declared.rule.Rule.{Rule}

-- an earlier constant stands for the element
pub record IsEarlier (c : Candidate) (constant element : ℕ) : Type 0 where
  pub earlier : ℕ
  pub before : earlier < constant
  pub stands : c.place earlier ≡ element

-- the constant stands for an element behind another only where an earlier one stands for that one
abbrev pub Follows : ℕ → Candidate → Type 0
Follows constant c =
    (element : ℕ) → c.place constant ≡ suc element → IsEarlier c constant element

-- the first constants, of this number, do
abbrev pub IsOrdered : ℕ → Candidate → Type 0
IsOrdered count c = (constant : ℕ) → constant < count → Follows constant c

-- the form of each rule is well-formed, with so many constants and parameters
abbrev pub AreFormedRules : ℕ → List Rule → Type 0
AreFormedRules constants rules =
    AllByRecursion (λ rule. IsWellFormed constants rule.form.now) rules

-- a candidate that suits the rules, and of which the clauses are true
pub record Suited (size : ℕ) (rules : List Rule) (s : Drawn) : Type 0 where
  pub candidate : Candidate
  pub suits : SuitsRules size rules candidate
  pub suited : IsSuited candidate s

-- there is one, where any candidate suits the rules
abbrev pub IsFair : ℕ → List Rule → Drawn → Type 0
IsFair size rules s = (c : Candidate) → SuitsRules size rules c → Suited size rules s
