use Rattle.std.proofs.Common.{◌+◌, drop}
use Rattle.proof_text.specs.ScriptOf.{steps_of, after_steps}
use Rattle.proof_text.proofs.StepWritten.{dropped, others_may, next_written, next_after}
use Rattle.proof_text.proofs.step.steps_of.Goals as goal

pub loop-step-preserved : goal.loop-step-preserved
loop-step-preserved c =
    let e = c.args.edition in
    let task = c.args.task.now in
    let steps = c.args.steps.now in
    let n = c.loop-step.step-index in
    let step = c.step-item.result in
    let so_far = c.loop-step.invariant in
    let left = dropped steps n step c.loop-step-test.true c.step-item.is in
    let before = c.loop-step.context in
    let after = c.step_of.new.context in record {
      inside = c.in_ok-step_of.ensures.inside;
      may = others_may task step (drop (n + 1) steps) (drop n steps) left before after c.in_ok-step_of.ensures.after so_far.may;
      text = next_written task step (drop (n + 1) steps) (drop n steps) left before after c.in_ok-step_of.ensures.after e c.loop-step.texts c.push.new.self
          (steps_of e task steps c.args.context.now) c.in_ok-step_of.field-0 c.in_ok-step_of.ensures.text c.in_ok-push.ensures.ok so_far.text;
      after = next_after task step (drop (n + 1) steps) (drop n steps) left before after c.in_ok-step_of.ensures.after (after_steps task steps c.args.context.now)
          so_far.after;
    }
