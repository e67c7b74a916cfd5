use Rattle.std.proofs.Common.{arith}
use Rattle.clause_solver.proofs.Keeping.{front_gives, some_whole}
use Rattle.clause_solver.specs.Clauses.{IsLiteralTrue, IsLeftTrue}
use Rattle.clause_solver.proofs.store.Store.are_spent.Goals as goal

pub loop-literal-preserved : goal.loop-literal-preserved
loop-literal-preserved c = λ sigma suits front.
    front_gives (IsLiteralTrue sigma) (IsLeftTrue sigma c.args.left) c.args.clause.now c.loop-literal.literal-index _ (omega arith)
    (c.loop-literal.invariant sigma suits) (c.if-not-is_spent.ensures sigma suits) front

pub returns : goal.returns
returns c = λ sigma suits true. c.loop-literal.invariant sigma suits (some_whole (IsLiteralTrue sigma) c.args.clause.now c.loop-literal.literal-index (omega arith) true)
