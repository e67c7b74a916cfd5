use Rattle.std.proofs.Common.{inl, inr}
use Rattle.std.proofs.lemmas.Result.{on_ok_weaker}
use Rattle.model_search.specs.Candidates.{holds_in}
use Rattle.model_search.proofs.Keys.{opposite_or}
use Rattle.model_search.proofs.sheet.Sheet.add_false.Goals as goal

pub returns-clause-covers : goal.returns-clause-covers
returns-clause-covers c = on_ok_weaker c.add_true.result
    (λ covers candidate. elim (opposite_or (holds_in candidate c.args.fact.symbol c.args.fact.elements) c.args.fact.positive) [
      | inl holds ↦ inl holds
      | inr opposite ↦ inr (covers candidate opposite)
    ]) c.add_true.ensures.covers
