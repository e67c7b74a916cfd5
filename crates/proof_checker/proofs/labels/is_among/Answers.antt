use Rattle.std.proofs.Common.{refl}
use Rattle.proof_checker.proofs.Compared.{failed}
use Rattle.proof_checker.proofs.Searched.{is_here, not_next}
use Rattle.proof_checker.proofs.labels.is_among.Goals as goal

pub returns-then-is_same_label : goal.returns-then-is_same_label
returns-then-is_same_label c = (
  (λ e. is_here c.args.labels.now c.loop-other.other-index c.other-item.result c.args.label.now c.loop-other-test.true c.other-item.is
      (c.is_same_label.ensures.0 c.if-is_same_label.true)),
  (λ h. refl),
)

pub loop-other-preserved : goal.loop-other-preserved
loop-other-preserved c = not_next c.args.labels.now c.loop-other.other-index c.other-item.result c.args.label.now c.loop-other-test.true c.other-item.is
    c.loop-other.invariant (failed c.is_same_label.result _ c.is_same_label.ensures c.if-is_same_label.false)
