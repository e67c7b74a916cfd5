use Rattle.clause_solver.proofs.store.Store.is_spent.Goals as goal

pub returns-then-is_false : goal.returns-then-is_false
returns-then-is_false c = λ sigma suits holds. absurd (c.if-is_false.ensures sigma suits holds)
