use Rattle.clause_solver.proofs.analysis.learn.Goals as goal

pub returns-in_err-number : goal.returns-in_err-number
returns-in_err-number c = λ sigma suits. c.in_err-number.ensures sigma suits (rw c.literals.ensures (c.in_ok-asserted.ensures sigma suits))

pub returns : goal.returns
returns c = λ sigma suits. c.in_ok-number.ensures sigma suits (rw c.literals.ensures (c.in_ok-asserted.ensures sigma suits))
