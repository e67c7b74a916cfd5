use Rattle.std.proofs.Common.{◌∙◌, ap, sym, subst, slice_get, Some, List, ℕ}
use Rattle.proof_plans.specs.declared.draft.PlanTie as PlanTie
use Rattle.proof_plans.specs.Repeats.{StandsAt}
use Rattle.proof_plans.proofs.Parted.{on_success}
use Rattle.proof_plans.proofs.Novel.{seen_at}
use Rattle.proof_plans.proofs.useless.is_seen.Goals as goal

pub returns-then-below-node : goal.returns-then-below-node
returns-then-below-node c = on_success c.is_of_step.result c.is_of_step.ensures (λ made.
    subst (λ (node : ℕ). StandsAt c.args.scene.now c.args.draft.now node c.args.read.now.base c.args.read.now.atom.now) c.if-below-node.true
    (seen_at c.args.scene.now c.args.draft.now c.args.read.now.base c.args.read.now.atom.now c.args.tie c.in-Some-Over.step c.in-Some-Over.below
    (ap (λ (ties : List PlanTie.PlanTie). slice_get ties c.args.tie) (sym c.ties.ensures) ∙ sym c.item_at.ensures ∙ c.in-Some-Over.is ∙ ap Some c.in-Some-Over.field-0-is) made))
