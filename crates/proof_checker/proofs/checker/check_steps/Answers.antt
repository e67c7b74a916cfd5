use Rattle.std.proofs.Common.{◌+◌, [], ◌∷◌, length, ap, ◌∙◌, arith, length-append}
use Rattle.proof_checker.specs.Faults.{IsRefusedAt, StepFault}
use Rattle.proof_checker.specs.Kept.{branch_of}
use Rattle.proof_checker.specs.Running.{step_node, BodyFault}
use Rattle.proof_checker.specs.declared.refusal.Rule.TheVariants as rule
use Rattle.proof_checker.proofs.Running.{refused_by, refuses_so, run_fault, steps_added_none, steps_added_next}
use Rattle.proof_checker.proofs.checker.check_steps.Goals as goal

pub loop-step-init : goal.loop-step-init
loop-step-init c = record {
  run = steps_added_none c.args.task.now c.args.trail.now c.args.nodes.now c.requires.kept;
  many = omega arith;
}

pub returns-in-Err-clause-err : goal.returns-in-Err-clause-err
returns-in-Err-clause-err c gaps =
    let task = c.args.task.now in
    let now = branch_of c.loop-step.trail in
    let inv = c.loop-step.invariant in
    let text = c.args.text.now in
    let number = c.next_number.result in
    refuses_so (IsRefusedAt number rule.Mp (StepFault task now c.step-item.result)) (BodyFault task gaps text (length c.args.nodes.now + 1) (branch_of c.args.trail.now))
    (λ refusal told. run_fault task text c.loop-step.step-index c.step-item.result inv.run.steps (length c.args.nodes.now + 1) number (branch_of c.args.trail.now) now refusal
    (rw c.as_slice-step-items.ensures at c.loop-step-test.true) (rw c.as_slice-step-items.ensures at c.step-item.is)
    (let told = c.next_number.ensures in let many = inv.many in omega (arith, told, many)) inv.run.run told gaps) c.refused.result
    (refused_by (StepFault task now c.step-item.result) number rule.Mp c.in-Err.halt c.refused.result c.refused.ensures c.in-Err.ensures.err)

pub loop-step-preserved : goal.loop-step-preserved
loop-step-preserved c =
    let inv = c.loop-step.invariant in
    let pushed = c.in_ok-push-in-Ok.ensures.ok in
    let many = inv.many in
    let longer = ap length pushed ∙ length-append c.loop-step.nodes (step_node c.in-Ok.step ∷ []) in
    record {
      run = steps_added_next c.args.task.now c.args.text.now.steps c.loop-step.step-index c.step-item.result c.in-Ok.step c.args.trail.now c.loop-step.trail
          c.check_step.new.trail c.args.nodes.now c.loop-step.nodes c.push.new.self (rw c.as_slice-step-items.ensures at c.loop-step-test.true)
          (rw c.as_slice-step-items.ensures at c.step-item.is) inv.run c.in-Ok.ensures.ok pushed;
      many = omega (arith, many, longer);
    }
