use Rattle.std.proofs.Common.{length}
use Rattle.model_search.proofs.violated.Seeker.+seek.Given as goal

abbrev pub decreases-seek : goal.decreases-seek
decreases-seek l = length l.steps.now
