use Rattle.proof_plans.proofs.Walked.{FirstHold}
use Rattle.proof_plans.proofs.landmarks.forms_hold.Given as goal

-- the first forms hold
abbrev pub invariant-loop-number : goal.invariant-loop-number
invariant-loop-number l = FirstHold l.set l.forms l.but l.number
