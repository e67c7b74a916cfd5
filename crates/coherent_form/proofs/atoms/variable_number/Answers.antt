use Rattle.std.proofs.Common.{inl, inr}
use Rattle.coherent_form.proofs.Steps.{number_step}
use Rattle.coherent_form.proofs.atoms.variable_number.Goals as goal
use Rattle.coherent_form.proofs.atoms.variable_number.Goals.{then-eq, else-eq}

pub loop-at-preserved : goal.loop-at-preserved
loop-at-preserved c =
    number_step c.args.scope.now c.args.name.now c.index-scope-at.result c.loop-at.at c.loop-at.number c.if-eq.number c.eq.result
    c.loop-at-test.true c.index-scope-at.is c.loop-at.invariant c.eq.ensures
    (elim c.if-eq.branch [ then-eq w ↦ inl (w.if-eq.true, w.number-is) | else-eq w ↦ inr (w.if-eq.false, w.number-is) ])
