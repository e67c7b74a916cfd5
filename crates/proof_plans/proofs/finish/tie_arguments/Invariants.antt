use Rattle.proof_plans.specs.Creators.{GetsTies}
use Rattle.proof_plans.proofs.finish.tie_arguments.Given as goal

-- the ties so far hold
abbrev pub invariant-loop-variable : goal.invariant-loop-variable
invariant-loop-variable l = GetsTies l.scene l.fn.draft l.draft
