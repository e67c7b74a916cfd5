use Rattle.std.proofs.Common.{ap}
use Rattle.fact_store.specs.Facts.{Facts}
use Rattle.proof_checker.proofs.Held.{fact_added, on_true, on_false}
use Rattle.proof_checker.proofs.trail.add_fact.Goals as goal

pub returns : goal.returns
returns c = fact_added c.args.fact.now c.args.store.now c.reserve.new.self c.add.new.self c.as_slice.result.now c.signed_number.result c.add.result
    c.signed_number.ensures c.as_slice.ensures c.reserve.ensures.facts c.reserve.ensures.signed c.add.ensures.exact
    (λ e. let is = on_true c.add.result _ c.add.ensures.added e in (ap (λ (s : Facts). s.facts) is, ap (λ (s : Facts). s.signed) is))
    (λ e. on_false c.add.result _ c.add.ensures.unchanged e)
