use Rattle.std.proofs.lemmas.Result.{on_ok_weaker}
use Rattle.clause_solver.specs.Clauses.{IsClauseTrue}
use Rattle.clause_solver.proofs.Keeping.{resolved}
use Rattle.clause_solver.proofs.working.Working.resolve.Goals as goal

pub returns : goal.returns
returns c = on_ok_weaker c.merge.result (λ more old clause sigma suits.
    let removed = rw c.opposite.ensures at (c.if-not-remove.ensures sigma (old sigma suits)) in
    resolved sigma c.args.pivot (IsClauseTrue sigma c.remove.new.self.literals.items) (IsClauseTrue sigma c.merge.new.self.literals.items)
    removed (c.merge.ensures.before sigma) (more sigma suits (clause sigma suits))) c.merge.ensures.more
