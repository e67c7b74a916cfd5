use Rattle.std.proofs.Common.{◌-◌}
use Rattle.trail_search.proofs.Disjuncts.{counted_next}
use Rattle.trail_search.proofs.answers.parameters.Goals as goal

pub loop-at-preserved : goal.loop-at-preserved
loop-at-preserved c =
    counted_next (c.start_elements.result - c.goal.result.now.universals) c.loop-at.at c.loop-at.all c.push.new.self c.loop-at.invariant c.in_ok-push.ensures.ok
