use Rattle.std.proofs.Common.{◌≡◌, ◌+◌, ◌-◌, ◌≤◌, ap, sym, ◌∙◌, slice_index, slice_get, Some, arith}
use Rattle.proof_plans.proofs.joining.root.Goals as goal

pub loop-round-preserved : goal.loop-round-preserved
loop-round-preserved c = λ values agrees.
    let from : c.args.start ≤ c.loop-round.at = omega (arith, c.if-at-start.false) in
    let at : c.args.start + (c.loop-round.at - c.args.start) ≡ c.loop-round.at = omega arith in
    let there : slice_get c.args.bound.now (c.loop-round.at - c.args.start) ≡ Some c.in_ok-next.next = sym c.item_at.ensures ∙ c.in_ok-next.was in
    c.loop-round.invariant values agrees ∙ ap (slice_index values) (sym at) ∙ agrees (c.loop-round.at - c.args.start) c.in_ok-next.next there
