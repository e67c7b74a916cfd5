use Rattle.fact_store.proofs.Walks.{after, IsAt}
use Rattle.fact_store.proofs.walk.number_in.Given as goal

abbrev pub invariant-loop-at : goal.invariant-loop-at
invariant-loop-at l = IsAt l.buckets.keys l.buckets.width l.args l.entries l.signed l.sought l.at

abbrev pub decreases-loop-at : goal.decreases-loop-at
decreases-loop-at l = after l.at
