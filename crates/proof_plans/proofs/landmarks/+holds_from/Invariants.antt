use Rattle.std.proofs.Common.{◌≡◌}
use Rattle.proof_plans.proofs.Walked.{HoldsBelow}
use Rattle.proof_plans.proofs.landmarks.+holds_from.Given as goal

abbrev pub decreases-holds_from : goal.decreases-holds_from
decreases-holds_from l = l.left

-- the form holds, whichever of the first elements the next variable has
abbrev pub invariant-loop-element : goal.invariant-loop-element
invariant-loop-element l = record {
  values : l.values.items ≡ l.fn.values.items;
  holds : HoldsBelow l.set l.form l.fresh l.fn.values.items l.element;
}
