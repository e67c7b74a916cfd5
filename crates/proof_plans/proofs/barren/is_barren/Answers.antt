use Rattle.std.proofs.Common.{◌∙◌, ap, sym, subst, slice_get, List}
use Rattle.std.specs.Option.{option_copied}
use Rattle.std.specs.List.{AllByRecursion}
use Rattle.proof_plans.specs.declared.draft.PlanStep.{PlanStep}
use Rattle.proof_plans.specs.Repeats.{StandsBefore}
use Rattle.proof_plans.proofs.Parted.{on_success}
use Rattle.proof_plans.proofs.Repeats.{barren_hopeless}
use Rattle.proof_plans.proofs.barren.is_barren.Goals as goal

pub returns : goal.returns
returns c = on_success c.all_stand.result c.all_stand.ensures (λ stand.
    barren_hopeless c.args.scene.now c.args.draft.now c.args.step c.in-Some.kept c.in-Some-place_at.form.now
    (ap (λ (steps : List PlanStep). slice_get steps c.args.step) (sym c.steps.ensures) ∙ sym c.item_at.ensures ∙ c.in-Some.is)
    (sym c.place_at.ensures ∙ ap option_copied c.in-Some-place_at.is)
    c.in-Some-only_list.facts.now c.if-form-ne0.false c.in-Some-only_list.ensures
    (subst (AllByRecursion (StandsBefore c.args.scene.now c.args.draft.now c.args.step c.in-Some.kept.base)) c.as_slice.ensures stand))
