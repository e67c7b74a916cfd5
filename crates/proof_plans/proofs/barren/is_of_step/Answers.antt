use Rattle.std.proofs.Common.{◌∙◌, ap, sym, subst, slice_get, List}
use Rattle.std.specs.Option.{option_copied}
use Rattle.proof_plans.specs.declared.draft.PlanStep.{PlanStep}
use Rattle.proof_plans.specs.Repeats.{HasSame}
use Rattle.proof_plans.proofs.Parted.{on_success}
use Rattle.proof_plans.proofs.Repeats.{of_step}
use Rattle.proof_plans.proofs.barren.is_of_step.Goals as goal

pub returns : goal.returns
returns c = on_success c.has_same.result c.has_same.ensures (λ same.
    of_step c.args.scene.now c.args.draft.now c.args.step c.in-Some.kept c.in-Some-place_at.form.now
    (ap (λ (steps : List PlanStep). slice_get steps c.args.step) (sym c.steps.ensures) ∙ sym c.item_at.ensures ∙ c.in-Some.is)
    (sym c.place_at.ensures ∙ ap option_copied c.in-Some-place_at.is)
    c.args.read.now.base c.args.read.now.atom.now c.in-Some-only_list.facts.now c.in-Some-only_list.ensures
    (subst (HasSame c.args.draft.now c.args.read.now.base c.args.read.now.atom.now c.in-Some.kept.base) c.as_slice.ensures same))
