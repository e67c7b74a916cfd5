use Rattle.clause_solver.specs.Stored.{kept_in, Follows}
use Rattle.clause_solver.proofs.analysis.shorten.Given as goal

abbrev pub invariant-loop-at : goal.invariant-loop-at
invariant-loop-at l = Follows (kept_in l.store) l.initial.search.working.literals.items → Follows (kept_in l.store) l.search.working.literals.items
