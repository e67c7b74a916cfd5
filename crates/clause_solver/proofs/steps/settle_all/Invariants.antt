use Rattle.clause_solver.specs.Stored.{kept_in, StaySuited}
use Rattle.clause_solver.proofs.steps.settle_all.Given as goal

abbrev pub invariant-loop-at : goal.invariant-loop-at
invariant-loop-at l = StaySuited (kept_in l.initial.store) (kept_in l.store)
