use Rattle.std.proofs.Common.{◌≤◌}
use Rattle.clause_solver.proofs.propagation.go_round.Given as goal

abbrev pub invariant-loop-at : goal.invariant-loop-at
invariant-loop-at l = l.kept ≤ l.at
