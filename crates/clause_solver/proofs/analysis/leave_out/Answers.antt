use Rattle.std.proofs.lemmas.Result.{on_ok_weaker}
use Rattle.clause_solver.proofs.analysis.leave_out.Goals as goal

pub returns : goal.returns
returns c = on_ok_weaker c.resolve.result (λ more old. more old c.in-Some-clause.ensures) c.resolve.ensures
