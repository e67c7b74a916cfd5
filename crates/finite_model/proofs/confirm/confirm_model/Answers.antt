use Rattle.std.specs.Prelude.{IfSome, IfNone}
use Rattle.std.specs.List.{AllByRecursion}
use Rattle.std.proofs.Common.{subst}
use Rattle.finite_model.specs.Structures.{finite}
use Rattle.finite_model.specs.Countermodels.{IsPlaced, Suits, Fails, IsFirst}
use Rattle.finite_model.specs.declared.refusal.ConfirmRefusal.TheVariants.{ModelPlace, ModelFails}
use Rattle.finite_model.proofs.Confirmed.{exact_done, exact_fault, counter_made}
use Rattle.finite_model.proofs.confirm.confirm_model.Goals as goal

pub returns-in-Some-clause-exact : goal.returns-in-Some-clause-exact
returns-in-Some-clause-exact c =
    let m = c.args.model.now in
    let first : IsFirst (IsPlaced m) (λ constant. IsPlaced m constant → ⊥) c.args.task.now.tables.constants c.in-Some.number =
    rw c.in_ok-lookup.ensures at (rw c.tables.ensures at c.in-Some.ensures.some) in
    exact_fault c.args.task.now.tables.constants c.args.problem.now m (ModelPlace c.in-Some.number) first

pub returns-in-Some-2-clause-exact : goal.returns-in-Some-2-clause-exact
returns-in-Some-2-clause-exact c =
    let m = c.args.model.now in
    let found = c.in_ok-lookup.lookup in
    let placed : AllByRecursion (IsPlaced m) c.args.task.now.tables.constants =
    rw c.in_ok-lookup.ensures at (rw c.tables.ensures at c.in_default.ensures.none) in
    let first : IsFirst (Suits (finite m)) (Fails (finite m)) c.args.problem.now c.in-Some-2.number =
    rw c.in_ok-lookup.ensures at (subst (λ o. IfSome o (λ number. IsFirst (Suits (finite found)) (Fails (finite found)) c.args.problem.now number))
    c.in-Some-2.is c.in_ok-number.ensures.some) in
    exact_fault c.args.task.now.tables.constants c.args.problem.now m (ModelFails c.in-Some-2.number) (placed, first)

pub returns-clause-exact : goal.returns-clause-exact
returns-clause-exact c =
    let m = c.args.model.now in
    let found = c.in_ok-lookup.lookup in
    let placed : AllByRecursion (IsPlaced m) c.args.task.now.tables.constants =
    rw c.in_ok-lookup.ensures at (rw c.tables.ensures at c.in_default.ensures.none) in
    let suits : AllByRecursion (Suits (finite m)) c.args.problem.now =
    rw c.in_ok-lookup.ensures at (subst (λ o. IfNone o (AllByRecursion (Suits (finite found)) c.args.problem.now)) c.in-None.is c.in_ok-number.ensures.none) in
    exact_done c.args.task.now.tables.constants c.args.problem.now m tt (counter_made c.args.task.now.tables.constants c.args.problem.now m c.size.ensures.sound placed suits)
