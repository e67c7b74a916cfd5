use Rattle.clause_solver.proofs.Keeping.{Suits-added}
use Rattle.clause_solver.specs.Stored.{kept_in}
use Rattle.clause_solver.proofs.store.Store.add.Goals as goal

pub returns-in_err-add_clause : goal.returns-in_err-add_clause
returns-in_err-add_clause c = λ sigma suits true.
    Suits-added sigma (kept_in c.args.self.now) _ suits (c.add_clause.ensures sigma suits.clauses true)

pub returns : goal.returns
returns c = λ sigma suits true.
    Suits-added sigma (kept_in c.args.self.now) _ suits (c.add_clause.ensures sigma suits.clauses true)
