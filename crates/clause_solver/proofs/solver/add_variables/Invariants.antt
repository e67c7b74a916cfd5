use Rattle.clause_solver.specs.Stored.{kept_in, StaySuited}
use Rattle.clause_solver.proofs.solver.add_variables.Given as goal

abbrev pub invariant-loop : goal.invariant-loop
invariant-loop l = StaySuited (kept_in l.initial.store) (kept_in l.store)
