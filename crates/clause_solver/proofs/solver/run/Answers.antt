use Rattle.clause_solver.proofs.solver.run.Goals as goal

pub returns-in_err-answer-clause-kept : goal.returns-in_err-answer-clause-kept
returns-in_err-answer-clause-kept c = λ sigma suits. c.step.ensures.kept sigma (c.loop.invariant sigma suits)

pub returns-in-Some-clause-kept : goal.returns-in-Some-clause-kept
returns-in-Some-clause-kept c = λ sigma suits. c.step.ensures.kept sigma (c.loop.invariant sigma suits)

pub loop-preserved : goal.loop-preserved
loop-preserved c = λ sigma suits. c.step.ensures.kept sigma (c.loop.invariant sigma suits)
