use Rattle.std.proofs.Common.{subst, ◌+◌}
use Rattle.finite_model.specs.Structures.{finite}
use Rattle.finite_model.specs.Countermodels.{IsFirst, Suits, Fails}
use Rattle.finite_model.proofs.Tables.{item_at, first_at}
use Rattle.finite_model.proofs.sought.first_failing.Goals as goal

pub returns-then-not-branch-clause-some : goal.returns-then-not-branch-clause-some
returns-then-not-branch-clause-some c =
    let s = finite c.args.lookup.now in
    let formulas = c.as_slice-formulas.result.now in
    let fof = c.index-formulas-number.result in
    subst (λ list. IsFirst (Suits s) (Fails s) list (c.loop-number.number + 1)) c.as_slice-formulas.ensures.formulas
    (first_at (Suits s) (Fails s) formulas c.loop-number.number fof
    (item_at formulas c.loop-number.number fof c.loop-number-test.true c.index-formulas-number.is) c.loop-number.invariant
    (c.in_ok-suits.ensures.no c.if-not-branch.true))
