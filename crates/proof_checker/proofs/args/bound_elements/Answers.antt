use Rattle.proof_checker.proofs.Instances.{given_next}
use Rattle.proof_checker.proofs.args.bound_elements.Goals as goal

pub loop-label-preserved : goal.loop-label-preserved
loop-label-preserved c = given_next c.args.trail.now.names c.args.binds.now c.args.labels.now c.loop-label.label-index c.label-item.result c.loop-label.elements
    c.push.new.self c.in-Some.element c.loop-label-test.true c.label-item.is c.loop-label.invariant c.in-Some.ensures.some c.in_ok-push-in-Some.ensures.ok
