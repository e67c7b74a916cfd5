use Rattle.proof_plans.specs.Creators.{GetsTies}
use Rattle.proof_plans.proofs.finish.add_creators.Given as goal

-- the ties so far hold
abbrev pub invariant-loop-user : goal.invariant-loop-user
invariant-loop-user l = GetsTies l.scene l.fn.draft l.draft
