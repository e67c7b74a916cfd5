use Rattle.std.proofs.Common.{◌∙◌, ap, sym, subst, slice_get, Some, List, ℕ}
use Rattle.proof_plans.specs.declared.draft.PlanTie as PlanTie
use Rattle.proof_plans.specs.Repeats.{StandsBefore}
use Rattle.proof_plans.proofs.Parted.{on_success}
use Rattle.proof_plans.proofs.Repeats.{under_stands, made_stands, lower_stands}
use Rattle.proof_plans.proofs.barren.+stands_before.Goals as goal

pub stands_by-returns-then-user-step : goal.stands_by-returns-then-user-step
stands_by-returns-then-user-step t c = on_success c.is_in_cases.result c.is_in_cases.ensures (λ cases.
    subst (λ (step : ℕ). StandsBefore c.args.scene.now c.args.draft.now step c.args.read.now.base c.args.read.now.atom.now) c.if-user-step.true
    (under_stands c.args.scene.now c.args.draft.now c.args.read.now.base c.args.read.now.atom.now c.args.tie c.in-Some-Under.user c.in-Some-Under.node
    (ap (λ (ties : List PlanTie.PlanTie). slice_get ties c.args.tie) (sym c.ties.ensures) ∙ sym c.item_at.ensures ∙ c.in-Some-Under.is ∙ ap Some c.in-Some-Under.field-0-is) cases))

pub stands_by-returns-then-is_of_step : goal.stands_by-returns-then-is_of_step
stands_by-returns-then-is_of_step t c = on_success c.is_of_step.result c.is_of_step.ensures (λ made.
    subst (λ (step : ℕ). StandsBefore c.args.scene.now c.args.draft.now step c.args.read.now.base c.args.read.now.atom.now) c.if-upper-step.false
    (made_stands c.args.scene.now c.args.draft.now c.args.read.now.base c.args.read.now.atom.now c.args.tie c.in-Some-Before.lower c.in-Some-Before.upper
    (ap (λ (ties : List PlanTie.PlanTie). slice_get ties c.args.tie) (sym c.ties.ensures) ∙ sym c.item_at.ensures ∙ c.in-Some-Before.is ∙ ap Some c.in-Some-Before.field-0-is) made))

pub stands_by-returns-else-is_of_step : goal.stands_by-returns-else-is_of_step
stands_by-returns-else-is_of_step t c = on_success c.stands_before.result c.stands_before.ensures (λ stands.
    subst (λ (step : ℕ). StandsBefore c.args.scene.now c.args.draft.now step c.args.read.now.base c.args.read.now.atom.now) c.if-upper-step.false
    (lower_stands c.args.scene.now c.args.draft.now c.args.read.now.base c.args.read.now.atom.now c.args.tie c.in-Some-Before.lower c.in-Some-Before.upper
    (ap (λ (ties : List PlanTie.PlanTie). slice_get ties c.args.tie) (sym c.ties.ensures) ∙ sym c.item_at.ensures ∙ c.in-Some-Before.is ∙ ap Some c.in-Some-Before.field-0-is) stands))
