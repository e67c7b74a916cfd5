use Rattle.std.proofs.Common.{◌∙◌, ap, sym, slice_get, List}
use Rattle.proof_plans.specs.declared.draft.Node.{Node}
use Rattle.proof_plans.proofs.Parted.{on_success}
use Rattle.proof_plans.proofs.Signs.{zero_reached, node_reached}
use Rattle.proof_plans.proofs.reach.+cases_reached.Goals as goal

pub returns-then-node-eq0 : goal.returns-then-node-eq0
returns-then-node-eq0 t c = λ task lent branch is lines there.
    zero_reached c.args.row.now task lent c.args.draft.now.nodes c.args.node c.if-node-eq0.true lines branch there

pub returns : goal.returns
returns t c = on_success c.cases_reached.result c.cases_reached.ensures (λ above task lent branch is lines there.
    node_reached c.args.row.now task lent c.args.draft.now.nodes c.args.node c.in-Some.kept c.as_slice.result.now
    (ap (λ (nodes : List Node). slice_get nodes c.args.node) (sym c.nodes.ensures) ∙ sym c.item_at.ensures ∙ c.in-Some.is)
    (λ atoms variables listed. c.as_slice.ensures ∙ c.in-Some-list_at.ensures task lent atoms variables is listed)
    c.if-not-all_reached.ensures lines (λ upper up. above task lent upper is lines up) branch there)
