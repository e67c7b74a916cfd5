use Rattle.std.proofs.Common.{◌≡◌, arith, rules}
use Rattle.clause_solver.specs.Clauses.{IsLiteralTrue}
use Rattle.clause_solver.proofs.Keeping.{some_read}
use Rattle.clause_solver.proofs.working.Working.place_of.Goals as goal

pub returns : goal.returns
returns c = λ sigma true.
    let same : c.index-else-place-len-2.result.now ≡ c.args.literal = search rules in
    some_read (IsLiteralTrue sigma) c.args.self.now.literals.items c.index.result.now _ c.args.literal same (omega arith) c.index-else-place-len-2.ensures true
