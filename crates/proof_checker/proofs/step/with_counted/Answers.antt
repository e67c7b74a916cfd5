use Rattle.proof_checker.proofs.Searched.{counted_more}
use Rattle.proof_checker.proofs.step.with_counted.Goals as goal

pub loop-at-preserved : goal.loop-at-preserved
loop-at-preserved c = counted_more c.args.elements.now c.loop-at.all c.push.new.self c.args.first c.loop-at.at c.loop-at.invariant c.in_ok-push.ensures.ok
