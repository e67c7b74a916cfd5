use Rattle.std.proofs.Common.{◌≡◌, length, arith}
use Rattle.clause_solver.proofs.Keeping.{AreTrue-longer, AreTrue-added}
use Rattle.clause_solver.proofs.store.add_clause.Goals as goal

pub returns-in_err-push : goal.returns-in_err-push
returns-in_err-push c = λ sigma true more.
    rw (c.in_ok-extend_from_slice.ensures.items, c.in_err-push.ensures.items) (AreTrue-longer sigma c.args.literals.now.items c.args.clause.now c.args.parts.now.items true)

pub returns : goal.returns
returns c = λ sigma true more.
    let start : c.in_ok-number_of.field-0 ≡ length c.args.literals.now.items = omega (arith, c.in_ok-number_of.ensures) in
    let count : c.in_ok-number_of-2.field-0 ≡ length c.args.clause.now = omega (arith, c.in_ok-number_of-2.ensures) in
    rw (c.in_ok-extend_from_slice.ensures.items, c.in_ok-push.ensures.items) (AreTrue-added sigma c.args.literals.now.items c.args.clause.now c.args.parts.now.items _ start count true more)
