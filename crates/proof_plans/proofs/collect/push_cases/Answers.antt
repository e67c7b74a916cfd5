use Rattle.std.proofs.Common.{◌≡◌, ◌∙◌, List, slice_get, Some, ap, sym, subst}
use Rattle.proof_plans.specs.declared.draft.Node.{Node}
use Rattle.proof_plans.specs.Drafts.{IsReached}
use Rattle.proof_plans.specs.Ways.{IsByCase}
use Rattle.proof_plans.proofs.Gathered.{all_also, begins_on, below_more, below_all, reached_last, reached_next, case_here}
use Rattle.proof_plans.proofs.collect.push_cases.Goals as goal

pub returns-then-at-eq0-clause-all : goal.returns-then-at-eq0-clause-all
returns-then-at-eq0-clause-all c = λ task lent shown.
    let nodes = c.args.draft.now.nodes in
    below_all _ _ (IsByCase task lent c.args.atom.now nodes c.args.node) c.loop-done.done (c.loop-done.invariant.1 task lent shown)
    (λ count way w. reached_last nodes c.loop-done.done count c.args.node w.node (subst (IsReached nodes c.loop-done.done c.args.node) c.if-at-eq0.true c.loop-done.invariant.0) w.reached w.inner)

pub loop-done-preserved : goal.loop-done-preserved
loop-done-preserved c =
    let nodes = c.args.draft.now.nodes in
    let is : slice_get nodes c.loop-done.at ≡ Some c.in-Some.kept
    = ap (λ (ns : List Node). slice_get ns c.loop-done.at) (sym c.nodes-nodes.ensures) ∙ sym c.item_at.ensures ∙ c.in-Some.is in (
      reached_next nodes c.loop-done.done c.args.node c.loop-done.at c.in-Some.kept c.loop-done.invariant.0 c.if-at-eq0.false is,
      λ task lent shown.
          below_more _ _ _ (IsByCase task lent c.args.atom.now nodes c.args.node) c.loop-done.done (c.loop-done.invariant.1 task lent shown)
          (all_also _ _ _ _ (c.if-not-push_list.ensures.all task lent shown)
          (case_here task lent c.args.atom.now nodes c.args.node c.loop-done.done c.loop-done.at c.in-Some.kept c.loop-done.invariant.0 is)),
      begins_on _ _ _ c.loop-done.invariant.2 c.if-not-push_list.ensures.more,
    )

pub returns-then-at-eq0-clause-more : goal.returns-then-at-eq0-clause-more
returns-then-at-eq0-clause-more c = c.loop-done.invariant.2
