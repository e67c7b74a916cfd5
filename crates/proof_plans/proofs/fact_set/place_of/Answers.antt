use Rattle.std.proofs.Common.{◌++◌, ◌∙◌, sym}
use Rattle.proof_plans.proofs.FactSets.{place_is}
use Rattle.proof_plans.proofs.fact_set.place_of.Goals as goal

pub returns : goal.returns
returns c = λ more.
    place_is c.args.elements c.args.starts.now (c.args.values.now ++ more) c.args.atom.now c.as_slice.result.now c.in_ok-place.place c.in_ok-start.start c.digit_of-first.result c.in_ok-number.number
    c.in_ok-place.ensures.1 (sym c.item_at.ensures ∙ c.in_ok-start.was) c.digit_of-first.ensures c.as_slice.ensures (c.in_ok-number.ensures more)
