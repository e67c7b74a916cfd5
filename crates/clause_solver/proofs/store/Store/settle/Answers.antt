use Rattle.clause_solver.proofs.Keeping.{Suits-set}
use Rattle.clause_solver.specs.Stored.{kept_in}
use Rattle.clause_solver.proofs.store.Store.settle.Goals as goal

pub returns : goal.returns
returns c = λ sigma suits.
    let holds = c.if-not-are_spent.ensures sigma suits (c.in-Some.ensures sigma suits) in
    rw c.place-2.ensures (Suits-set sigma (kept_in c.args.self.now) c.args.literal.variable c.args.literal.positive suits holds)
