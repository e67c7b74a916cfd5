use Rattle.clause_solver.proofs.Keeping.{OnTrue-apart}
use Rattle.clause_solver.specs.Stored.{kept_in}
use Rattle.clause_solver.proofs.store.Store.is_false.Goals as goal

pub returns-in-Some : goal.returns-in-Some
returns-in-Some c = OnTrue-apart (kept_in c.args.self.now) c.args.literal c.in-Some.value c.in-Some.ensures
