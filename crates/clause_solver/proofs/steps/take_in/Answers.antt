use Rattle.clause_solver.proofs.steps.take_in.Goals as goal

pub returns-in_default : goal.returns-in_default
returns-in_default c = λ sigma suits true. c.refute.ensures.kept sigma (c.in_ok-number.ensures sigma (c.in_ok-settle_all.ensures sigma suits) true)
