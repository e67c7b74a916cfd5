use Rattle.std.proofs.Common.{◌≡◌, ◌+◌, ◌-◌, arith}
use Rattle.clause_solver.proofs.Keeping.{clause_true}
use Rattle.clause_solver.proofs.store.Store.clause.Goals as goal

pub returns : goal.returns
returns c = λ sigma suits.
    let part = c.index-part.result.now in
    let count : part.start + part.count - part.start ≡ part.count = omega arith in
    rw (count, c.deref.ensures.value) (clause_true sigma _ _ c.args.number part (omega arith) c.index-part.ensures suits.clauses)
