use Rattle.clause_solver.proofs.steps.meet.Goals as goal

pub returns-in_err-refute-clause-kept : goal.returns-in_err-refute-clause-kept
returns-in_err-refute-clause-kept c = λ sigma suits. c.in_err-refute.ensures.kept sigma (c.in_ok-settle_all.ensures sigma suits)

pub returns-clause-kept : goal.returns-clause-kept
returns-clause-kept c = λ sigma suits. c.in_ok-refute.ensures.kept sigma (c.in_ok-settle_all.ensures sigma suits)
