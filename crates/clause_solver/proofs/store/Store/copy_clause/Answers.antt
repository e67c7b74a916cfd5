use Rattle.clause_solver.proofs.store.Store.copy_clause.Goals as goal

pub returns : goal.returns
returns c = λ before sigma suits. c.add_clause.ensures sigma (before sigma suits) (c.in-Some.ensures sigma suits)
