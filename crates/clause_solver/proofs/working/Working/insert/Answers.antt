use Rattle.std.proofs.Common.{inl, inr}
use Rattle.text_core.proofs.Laws.{some_front}
use Rattle.clause_solver.specs.Clauses.{IsLiteralTrue}
use Rattle.clause_solver.proofs.Keeping.{some_last}
use Rattle.clause_solver.proofs.working.Working.insert.Goals as goal

pub returns-then-holds-clause-more : goal.returns-then-holds-clause-more
returns-then-holds-clause-more c = λ sigma suits true. inr (c.if-holds.ensures sigma true)

pub returns-then-is_spent-clause-more : goal.returns-then-is_spent-clause-more
returns-then-is_spent-clause-more c = λ sigma suits true. inl (c.if-is_spent.ensures sigma suits true)

pub returns-clause-before : goal.returns-clause-before
returns-clause-before c = λ sigma true.
    rw (c.note_place.ensures, c.in_ok-push.ensures.items) (some_front (IsLiteralTrue sigma) c.args.self.now.literals.items _ true)

pub returns-clause-more : goal.returns-clause-more
returns-clause-more c = λ sigma suits true.
    inr (rw (c.note_place.ensures, c.in_ok-push.ensures.items) (some_last (IsLiteralTrue sigma) c.args.self.now.literals.items c.args.literal true))
