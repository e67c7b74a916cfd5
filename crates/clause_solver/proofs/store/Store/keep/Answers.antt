use Rattle.clause_solver.proofs.Keeping.{Suits-added}
use Rattle.clause_solver.specs.Stored.{kept_in}
use Rattle.clause_solver.proofs.store.Store.keep.Goals as goal
use Rattle.clause_solver.proofs.store.Store.keep.Goals.{then-is_wanted+in_ok-copy_clause, else-is_wanted}

pub loop-number-preserved : goal.loop-number-preserved
loop-number-preserved c = elim c.if-is_wanted.branch [
  | then-is_wanted+in_ok-copy_clause w ↦ λ sigma suits. rw (w.literals-is, w.parts-is) (w.copy_clause.ensures c.loop-number.invariant sigma suits)
  | else-is_wanted w ↦ λ sigma suits. rw (w.literals-is, w.parts-is) (c.loop-number.invariant sigma suits)
]

pub returns : goal.returns
returns c = λ sigma suits. Suits-added sigma (kept_in c.args.self.now) _ suits (c.loop-number.invariant sigma suits)
