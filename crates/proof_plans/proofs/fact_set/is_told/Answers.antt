use Rattle.std.proofs.Common.{◌∙◌, ap, sym, slice_get}
use Rattle.proof_plans.proofs.fact_set.is_told.Goals as goal

pub returns : goal.returns
returns c = λ more. ap (slice_get c.args.set.now.told.now) (sym (c.in_ok-place.ensures more)) ∙ sym c.item_at.ensures ∙ c.in_ok-is_told.was
