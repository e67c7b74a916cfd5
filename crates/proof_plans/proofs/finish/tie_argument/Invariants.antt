use Rattle.proof_plans.specs.Creators.{TiesArgument}
use Rattle.proof_plans.proofs.finish.tie_argument.Given as goal

-- the ties so far hold
abbrev pub invariant-loop-low : goal.invariant-loop-low
invariant-loop-low l = TiesArgument l.scene l.fn.draft l.user l.argument l.draft
