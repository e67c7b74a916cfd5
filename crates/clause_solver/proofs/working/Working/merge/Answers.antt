use Rattle.std.proofs.Common.{arith, ◌⊎◌, inl, inr}
use Rattle.clause_solver.proofs.Keeping.{front_gives, some_whole}
use Rattle.clause_solver.specs.Clauses.{IsLiteralTrue, IsLeftTrue, IsClauseTrue}
use Rattle.clause_solver.proofs.working.Working.merge.Goals as goal

pub loop-literal-preserved : goal.loop-literal-preserved
loop-literal-preserved c = record {
  before = λ sigma true. c.in_ok-insert.ensures.before sigma (c.loop-literal.invariant.before sigma true);
  more = λ sigma suits front.
      front_gives (IsLiteralTrue sigma) (IsLeftTrue sigma c.args.left ⊎ IsClauseTrue sigma c.insert.new.self.literals.items)
      c.args.clause.now c.loop-literal.literal-index _ (omega arith)
      (λ before. elim (c.loop-literal.invariant.more sigma suits before) [
        | inl left ↦ inl left
        | inr true ↦ inr (c.in_ok-insert.ensures.before sigma true)
      ])
      (c.in_ok-insert.ensures.more sigma suits) front;
}

pub returns-in_err-insert-clause-before : goal.returns-in_err-insert-clause-before
returns-in_err-insert-clause-before c = λ sigma true. c.in_err-insert.ensures.before sigma (c.loop-literal.invariant.before sigma true)

pub returns-clause-more : goal.returns-clause-more
returns-clause-more c = λ sigma suits true.
    c.loop-literal.invariant.more sigma suits (some_whole (IsLiteralTrue sigma) c.args.clause.now c.loop-literal.literal-index (omega arith) true)
