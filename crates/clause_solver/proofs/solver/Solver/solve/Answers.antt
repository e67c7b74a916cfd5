use Rattle.std.proofs.Common.{◌≡◌, false, sym, subst}
use Rattle.clause_solver.specs.Clauses.{Suits}
use Rattle.clause_solver.proofs.solver.Solver.solve.Goals as goal

pub returns-clause-kept : goal.returns-clause-kept
returns-clause-kept c = λ sigma suits. c.run.ensures.kept sigma (subst (Suits sigma) (sym c.self.view_is) suits)

pub returns-clause-none : goal.returns-clause-none
returns-clause-none c = λ answer sigma suits.
    let after = c.run.ensures.kept sigma (subst (Suits sigma) (sym c.self.view_is) suits) in
    let unrefuted : c.run.new.store.refuted ≡ false = after.unrefuted in
    let refuted = c.run.ensures.none answer in
    cc
