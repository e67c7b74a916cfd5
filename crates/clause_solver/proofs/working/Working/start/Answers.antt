use Rattle.std.proofs.lemmas.Result.{on_ok_weaker}
use Rattle.clause_solver.proofs.Keeping.{unless}
use Rattle.clause_solver.proofs.working.Working.start.Goals as goal

pub returns : goal.returns
returns c = on_ok_weaker c.merge.result (λ more clause sigma suits. unless (more sigma suits (clause sigma suits))) c.merge.ensures.more
