use Rattle.std.proofs.Common.{◌+◌, ◌*◌}
use Rattle.proof_plans.proofs.barren.+stands_before.Given as goal

abbrev pub decreases-stands_before : goal.decreases-stands_before
decreases-stands_before l = 2 * l.fuel

abbrev pub decreases-stands_by : goal.decreases-stands_by
decreases-stands_by l = 2 * l.fuel + 1
