use Rattle.proof_checker.proofs.Searched.{labels_next}
use Rattle.proof_checker.proofs.labels.labels_of.Goals as goal

pub loop-variable-preserved : goal.loop-variable-preserved
loop-variable-preserved c f variables are = labels_next c.args.task.now c.args.form f variables c.loop-variable.labels c.push.new.self c.in_ok-label.field-0
    c.loop-variable.variable are (c.loop-variable.invariant f variables are) c.in_ok-label.ensures c.in_ok-push.ensures.ok
