use Rattle.std.proofs.Common.{◌≢◌, take}
use Rattle.std.specs.List.{AllByRecursion}
use Rattle.proof_plans.proofs.landmarks.is_further.Given as goal

-- it is none of the first of them
abbrev pub invariant-loop-at : goal.invariant-loop-at
invariant-loop-at l = AllByRecursion (λ other. other ≢ l.number) (take l.at l.numbers)
