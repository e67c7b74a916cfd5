use Rattle.std.proofs.Common.{◌≡◌, replicate}
use Rattle.proof_plans.proofs.settle.unknown_places.Given as goal

-- as many places as were pushed, of which nothing is known
abbrev pub invariant-loop-done : goal.invariant-loop-done
invariant-loop-done l = l.places.items ≡ replicate l.done (record { rank = 0; level = 0 })
