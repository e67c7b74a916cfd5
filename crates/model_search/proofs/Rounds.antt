-- The rules of which instances are made.
use Rattle.std.proofs.Common.{◌≡◌, ℕ, List, Some}
use Rattle.std.specs.Prelude.{slice_get}
use Rattle.text_core.proofs.Laws.{each_get}
use Rattle.logic_core.specs.Forms.{FormTrue}
use Rattle.model_search.specs.Candidates.{Candidate, world}
use Rattle.model_search.specs.Rules.{SuitsForm, SuitsRules}
use Rattle.model_search.specs.declared.rule.Rule.{Rule}

-- a candidate that suits the rules suits the form of each
pub suits_form : (size : ℕ) (rules : List Rule) (i : ℕ) (rule : Rule) (c : Candidate) → slice_get rules i ≡ Some rule → SuitsRules size rules c
    → SuitsForm size rule.form.now c
suits_form size rules i rule c at suits = record {
  below = suits.below;
  holds = each_get (λ (r : Rule). FormTrue (world c) r.form.now) rules i rule suits.hold at;
}
