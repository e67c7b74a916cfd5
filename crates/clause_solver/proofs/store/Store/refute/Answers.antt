use Rattle.clause_solver.proofs.store.Store.refute.Goals as goal

pub returns-clause-kept : goal.returns-clause-kept
returns-clause-kept c = λ sigma suits. absurd (c.if-not-are_spent.ensures sigma suits (c.in-Some.ensures sigma suits))
