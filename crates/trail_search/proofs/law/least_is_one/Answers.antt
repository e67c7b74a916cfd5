use Rattle.trail_search.proofs.Fewest.{least_one}
use Rattle.trail_search.proofs.law.least_is_one.Goals as goal

pub returns : goal.returns
returns c = least_one
