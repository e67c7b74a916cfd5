use Rattle.std.proofs.Common.{inl, sym, refl, ◌∙◌}
use Rattle.proof_checker.specs.Faults.{FalsumFault}
use Rattle.proof_checker.specs.Kept.{branch_of}
use Rattle.proof_checker.specs.declared.halt.Halt.TheVariants as halt
use Rattle.proof_checker.specs.declared.refusal.Rule.TheVariants as rule
use Rattle.proof_checker.specs.declared.refusal.Why.TheVariants as why
use Rattle.proof_checker.proofs.Cased.{falsum_seen, seen_falsum}
use Rattle.proof_checker.proofs.Compared.{failed}
use Rattle.proof_checker.proofs.Running.{refused_by}
use Rattle.proof_checker.proofs.checker.end_by_falsum.Goals as goal

pub returns-then-has_falsum-clause-ok : goal.returns-then-has_falsum-clause-ok
returns-then-has_falsum-clause-ok c =
    (refl, falsum_seen c.args.trail.now.lines (c.requires.kept.falsum.0 (sym c.has_falsum.ensures ∙ c.if-has_falsum.true)))

pub returns-else-has_falsum-clause-err : goal.returns-else-has_falsum-clause-err
returns-else-has_falsum-clause-err c =
    let decides = rw (← c.has_falsum.ensures) at c.requires.kept.falsum in
    refused_by (FalsumFault c.args.task.now (branch_of c.args.trail.now)) c.args.number rule.Efq (halt.Fault why.NoFalsum) c.refused.result c.refused.ensures
    (inl ((λ some. failed c.has_falsum.result _ decides c.if-has_falsum.false (seen_falsum c.args.trail.now.lines some)), refl))
