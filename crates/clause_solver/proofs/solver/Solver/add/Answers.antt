use Rattle.std.proofs.Common.{sym, subst}
use Rattle.clause_solver.specs.Clauses.{Suits}
use Rattle.clause_solver.proofs.solver.Solver.add.Goals as goal

pub returns-in_err-add_variables : goal.returns-in_err-add_variables
returns-in_err-add_variables c = record {
  kept = λ sigma suits true. c.in_err-add_variables.ensures sigma (c.loop-literal.invariant sigma (subst (Suits sigma) (sym c.self.view_is) suits));
}

pub returns : goal.returns
returns c = record {
  kept = λ sigma suits true. c.take_in.ensures sigma (c.loop-literal.invariant sigma (subst (Suits sigma) (sym c.self.view_is) suits)) true;
}
