use Rattle.std.proofs.Common.{take}
use Rattle.proof_plans.specs.Landmarks.{IsMissing}
use Rattle.proof_plans.proofs.landmarks.is_missing.Given as goal

-- none of the first steps is by it
abbrev pub invariant-loop-number : goal.invariant-loop-number
invariant-loop-number l = IsMissing (take l.number l.steps) l.form
