use Rattle.std.proofs.Common.{◌≡◌, ◌∙◌, ap, sym, arith, List, slice_get, Some}
use Rattle.proof_plans.specs.declared.draft.PlanStep.{PlanStep}
use Rattle.proof_plans.proofs.Parted.{on_success}
use Rattle.proof_plans.proofs.Tying.{gets_before}
use Rattle.proof_plans.proofs.finish.tie_creator.Goals as goal

pub returns : goal.returns
returns c =
    let there : slice_get c.args.draft.now.steps c.args.low ≡ Some c.in-Some.step = ap (λ (steps : List PlanStep). slice_get steps c.args.low) (sym c.steps.ensures) ∙ sym c.item_at.ensures ∙ c.in-Some.is in
    on_success c.add_before.result c.add_before.ensures (λ grown a.
    gets_before c.args.scene.now c.args.draft.now c.args.low c.args.user c.args.argument c.in-Some.step c.in-Some-span_of.span there c.in-Some-span_of.ensures
    (let low = c.if-argument-span.false in omega (arith, low)) (let high = c.if-span-argument.false in omega (arith, high)) a c.add_before.new.draft grown)
