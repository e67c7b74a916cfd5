use Rattle.std.proofs.Common.{◌+◌, ◌*◌}
use Rattle.trail_search.proofs.replay.+replay.Given as goal

abbrev pub decreases-replay : goal.decreases-replay
decreases-replay l = 4 * l.budget + 1

abbrev pub decreases-replay_step : goal.decreases-replay_step
decreases-replay_step l = 4 * l.left + 2

abbrev pub decreases-replay_split : goal.decreases-replay_split
decreases-replay_split l = 4 * l.budget

abbrev pub decreases-replay_cases : goal.decreases-replay_cases
decreases-replay_cases l = 4 * l.left + 3

abbrev pub decreases-replay_branch : goal.decreases-replay_branch
decreases-replay_branch l = 4 * l.within + 2
