use Rattle.std.proofs.Common.{[]}
use Rattle.std.proofs.lemmas.Result.{IfErr-weaker, on_ok_weaker}
use Rattle.logic_core.specs.declared.form.Atom.{Atom}
use Rattle.vernacular_tree.specs.Contexts.{atom_at, Stands}
use Rattle.proof_checker.specs.Faults.{WitnessFault, InstanceFault}
use Rattle.proof_checker.specs.Kept.{branch_of}
use Rattle.proof_checker.specs.declared.refusal.Why.TheVariants as why
use Rattle.proof_checker.proofs.Ordered.{each_fails, each_passes, each_behind}
use Rattle.proof_checker.proofs.Stepped.{halts_so}
use Rattle.proof_checker.proofs.step.apply.Goals as goal

pub returns-in-Some-clause-err : goal.returns-in-Some-clause-err
returns-in-Some-clause-err c =
    let fails = rw (c.in-Some.is, c.as_slice.ensures) at c.in_ok-premise.ensures in
    each_fails why.PremiseMissing _ _ [] c.args.form.now.premises c.in-Some.premise fails

pub returns-clause-premises : goal.returns-clause-premises
returns-clause-premises c =
    let stand = rw (c.in_default.is, c.as_slice.ensures) at c.in_ok-premise.ensures in
    on_ok_weaker c.take_step.result (λ taken. each_behind (λ (atom : Atom). Stands (branch_of c.args.trail.now).context (atom_at c.args.args.now atom))
    [] c.args.form.now.premises stand) c.take_step.ensures.ok

pub returns-clause-err : goal.returns-clause-err
returns-clause-err c =
    let stand = rw (c.in_default.is, c.as_slice.ensures) at c.in_ok-premise.ensures in
    IfErr-weaker c.take_step.result _ _ (halts_so (WitnessFault c.args.task.now (branch_of c.args.trail.now) c.args.text.now c.args.form.now c.args.args.now)
    (InstanceFault c.args.task.now (branch_of c.args.trail.now) c.args.text.now c.args.form.now c.args.args.now)
    (λ reason told. each_passes why.PremiseMissing _ _ [] c.args.form.now.premises reason stand told)) c.take_step.ensures.err
