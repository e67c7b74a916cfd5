use Rattle.std.proofs.Common.{◌∙◌, ap, sym, subst, slice_get, List, ℕ}
use Rattle.proof_plans.specs.declared.draft.Node.{Node}
use Rattle.proof_plans.specs.Repeats.{HasSame}
use Rattle.proof_plans.proofs.Parted.{on_success}
use Rattle.proof_plans.proofs.Repeats.{case_has}
use Rattle.proof_plans.proofs.barren.is_in_case.Goals as goal

pub returns : goal.returns
returns c = on_success c.has_same.result c.has_same.ensures (λ same.
    case_has c.args.scene.now c.args.draft.now c.args.read.now.base c.args.read.now.atom.now c.args.node c.in-Some.kept c.as_slice.result.now c.if-node-eq0.false
    (ap (λ (nodes : List Node). slice_get nodes c.args.node) (sym c.nodes.ensures) ∙ sym c.item_at.ensures ∙ c.in-Some.is)
    (λ task lent atoms variables is listed. c.as_slice.ensures ∙ c.in-Some-list_at.ensures task lent atoms variables is listed)
    (subst (λ (b : ℕ). HasSame c.args.draft.now c.args.read.now.base c.args.read.now.atom.now b c.as_slice.result.now) c.base_of.ensures same))
