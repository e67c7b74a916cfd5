use Rattle.text_core.specs.Lists.{IsAmong}
use Rattle.proof_text.specs.declared.body.Binding.{Binding}
use Rattle.proof_checker.proofs.Compared.{failed}
use Rattle.proof_checker.proofs.Searched.{fails_here, passes_here}
use Rattle.proof_checker.proofs.labels.unknown_label.Goals as goal

pub returns-then-not-is_among : goal.returns-then-not-is_among
returns-then-not-is_among c = fails_here (λ front (bind : Binding). IsAmong bind.label c.args.labels.now) c.args.binds.now c.loop-at.at c.index-binds-at.result
    c.loop-at-test.true c.index-binds-at.is c.loop-at.invariant (failed c.is_among.result _ c.is_among.ensures c.if-not-is_among.true)

pub loop-at-preserved : goal.loop-at-preserved
loop-at-preserved c = passes_here (λ front (bind : Binding). IsAmong bind.label c.args.labels.now) c.args.binds.now c.loop-at.at c.index-binds-at.result
    c.loop-at-test.true c.index-binds-at.is c.loop-at.invariant (c.is_among.ensures.0 c.if-not-is_among.false)
