use Rattle.std.proofs.Common.{◌∙◌, ap, sym, subst, slice_get, List, ℕ}
use Rattle.std.specs.List.{AllByRecursion}
use Rattle.proof_plans.specs.declared.draft.Node.{Node}
use Rattle.proof_plans.specs.Repeats.{StandsAt}
use Rattle.proof_plans.proofs.Parted.{on_success}
use Rattle.proof_plans.proofs.Novel.{useless_hopeless}
use Rattle.proof_plans.proofs.useless.is_useless.Goals as goal

pub returns : goal.returns
returns c = on_success c.all_stand.result c.all_stand.ensures (λ stand.
    useless_hopeless c.args.scene.now c.args.draft.now c.args.number c.in-Some.node c.in-Some-item_at.kept c.as_slice.result.now
    (ap (λ (nodes : List ℕ). slice_get nodes c.args.number) (sym c.branches.ensures) ∙ sym c.item_at.ensures ∙ c.in-Some.is)
    c.if-node-eq0.false
    (ap (λ (nodes : List Node). slice_get nodes c.in-Some.node) (sym c.nodes.ensures) ∙ sym c.item_at-2.ensures ∙ c.in-Some-item_at.is)
    (λ task lent atoms variables is listed. c.as_slice.ensures ∙ c.in-Some-list_at.ensures task lent atoms variables is listed)
    (subst (λ (b : ℕ). AllByRecursion (StandsAt c.args.scene.now c.args.draft.now c.in-Some-item_at.kept.parent b) c.as_slice.result.now) c.base_of.ensures stand))
