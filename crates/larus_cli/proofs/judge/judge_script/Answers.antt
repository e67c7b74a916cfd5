use Rattle.std.proofs.Common.{rules, subst, sym}
use Rattle.proof_checker.specs.Faults.{IsFault}
use Rattle.larus_cli.specs.Answers.{step_refused}
use Rattle.larus_cli.specs.declared.report.Report.TheVariants.{Refused}
use Rattle.larus_cli.specs.Reports.{IsAnswer}
use Rattle.larus_cli.proofs.judge.judge_script.Goals as goal

pub returns-in-Ok : goal.returns-in-Ok
returns-in-Ok c words files later problem second format are reads =
    c.tell_proof.ensures words files later problem second format c.args.script.now are (record { reads = reads; accepted = c.in-Ok.ensures.ok })

pub returns-in-Err-Step : goal.returns-in-Err-Step
returns-in-Err-Step c words files later problem second format are reads =
    let is : IsFault c.args.task.now c.args.script.now c.in-Err-Step.refusal = search rules in
    subst (λ r. IsAnswer words files later (Refused r)) (sym c.in-Err-Step.refusal-is)
    (step_refused problem second format c.args.task.now c.args.script.now c.in-Err-Step.refusal (c.args.wanted, are) reads is)
