use Rattle.clause_solver.specs.Stored.{kept_in, StaySuited}
use Rattle.clause_solver.proofs.solver.Solver.add.Given as goal

abbrev pub invariant-loop-literal : goal.invariant-loop-literal
invariant-loop-literal l = StaySuited (kept_in l.initial.self-inside.store) (kept_in l.self-inside.store)
