use Rattle.std.proofs.Common.{map}
use Rattle.text_core.specs.Lists.{IsAmong}
use Rattle.proof_text.specs.declared.body.Binding.{Binding}
use Rattle.proof_checker.proofs.Compared.{failed}
use Rattle.proof_checker.proofs.Searched.{fails_here, passes_here}
use Rattle.proof_checker.proofs.labels.repeated_label.Goals as goal

pub returns-then-is_bound : goal.returns-then-is_bound
returns-then-is_bound c = fails_here (λ front (bind : Binding). IsAmong bind.label (map (λ (other : Binding). other.label) front) → ⊥)
    c.args.binds.now c.loop-at.at c.index-binds-at.result c.loop-at-test.true c.index-binds-at.is c.loop-at.invariant
    (λ none. none (c.is_bound.ensures.0 c.if-is_bound.true))

pub loop-at-preserved : goal.loop-at-preserved
loop-at-preserved c = passes_here (λ front (bind : Binding). IsAmong bind.label (map (λ (other : Binding). other.label) front) → ⊥)
    c.args.binds.now c.loop-at.at c.index-binds-at.result c.loop-at-test.true c.index-binds-at.is c.loop-at.invariant
    (failed c.is_bound.result _ c.is_bound.ensures c.if-is_bound.false)
