use Rattle.std.specs.Prelude.{◌≤◌, IfSome, IfNone}
use Rattle.std.proofs.Common.{subst}
use Rattle.vernacular_tree.specs.Sizes.{size}
use Rattle.larus_cli.specs.Smallest.{IsSmallest, HasNoProof}
use Rattle.larus_cli.specs.Done.{proved}
use Rattle.larus_cli.specs.Answers.{done, none_up_to}
use Rattle.larus_cli.proofs.search.prove_task.Goals as goal

pub returns-in_ok-text_for-in-Some : goal.returns-in_ok-text_for-in-Some
returns-in_ok-text_for-in-Some c words files later problem asks reads =
    let smallest = subst (λ o. IfSome o (IsSmallest c.args.task.now)) c.in-Some.is c.in_ok-proof.ensures.smallest in
    let within = subst (λ o. IfSome o (λ proof. size proof ≤ c.args.most)) c.in-Some.is c.in_ok-proof.ensures.within in
    done _ (proved problem c.in_ok-text_for-in-Some.field-0 c.args.most c.args.task.now c.in-Some.proof asks reads smallest within
    c.in_ok-text_for-in-Some.ensures.text c.in_ok-text_for-in-Some.ensures.back)

pub returns-in-None : goal.returns-in-None
returns-in-None c words files later problem asks reads =
    let none = subst (λ o. IfNone o (HasNoProof c.args.task.now c.args.most)) c.in-None.is c.in_ok-proof.ensures.none in
    none_up_to problem c.args.most c.args.task.now asks reads none
