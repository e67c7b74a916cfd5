use Rattle.std.proofs.Common.{◌≡◌, arith, rules}
use Rattle.clause_solver.specs.Clauses.{IsLiteralTrue}
use Rattle.clause_solver.proofs.Keeping.{last_taken, one_taken}
use Rattle.clause_solver.proofs.working.take_out.Goals as goal

pub returns-then-place-len-2 : goal.returns-then-place-len-2
returns-then-place-len-2 c = λ sigma true.
    let same : c.index.result.now ≡ c.args.literal = search rules in
    last_taken (IsLiteralTrue sigma) c.in-Some.last c.args.literal c.index.result.now same _ _ c.args.place c.in-Some.ensures.items (omega (arith, c.in-Some.ensures.len)) c.index.ensures true

pub returns : goal.returns
returns c = λ sigma true.
    let same : c.index.result.now ≡ c.args.literal = search rules in
    one_taken (IsLiteralTrue sigma) c.in-Some.last c.args.literal c.index.result.now same _ _ c.args.place c.in-Some.ensures.items (omega (arith, c.in-Some.ensures.len)) c.index.ensures true
