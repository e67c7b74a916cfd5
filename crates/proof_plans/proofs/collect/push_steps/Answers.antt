use Rattle.std.proofs.Common.{◌≡◌, ◌∙◌, Some, sym, subst, arith}
use Rattle.std.proofs.lemmas.Option.{slice_get_within}
use Rattle.proof_plans.specs.declared.choice.Choice.TheVariants as choice
use Rattle.proof_plans.specs.declared.draft.PlanStep.{PlanStep}
use Rattle.proof_plans.specs.Ways.{IsByOne, IsByOld}
use Rattle.proof_plans.proofs.Gathered.{all_also, below_more, below_all}
use Rattle.proof_plans.proofs.collect.push_steps.Goals as goal

pub loop-number-preserved : goal.loop-number-preserved
loop-number-preserved c =
    below_more _ _ _ (IsByOld c.args.atom.now c.args.forms.now c.args.steps.now) c.loop-number.number c.loop-number.invariant
    (all_also _ _ _ _ c.if-not-push_form.ensures (λ way w.
    let told : Some w.kept ≡ Some c.in-Some.step = sym w.kept_is ∙ sym c.item_at.ensures ∙ c.in-Some.is in
    let same : w.kept ≡ c.in-Some.step = cc in
    subst (λ (step : PlanStep). IsByOne c.args.atom.now c.args.forms.now step.form (choice.Step c.loop-number.number 0) way) same w.by))

pub returns : goal.returns
returns c = below_all _ _ (IsByOld c.args.atom.now c.args.forms.now c.args.steps.now) c.loop-number.number c.loop-number.invariant
    (λ number way w. omega (arith, slice_get_within c.args.steps.now number w.kept w.kept_is, c.loop-number-test.false))
