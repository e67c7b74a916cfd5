use Rattle.std.proofs.Common.{◌+◌, ◌++◌, drop}
use Rattle.proof_text.specs.ScriptOf.{after_steps}
use Rattle.proof_text.proofs.Laws.{dropped, others_may, next_after}
use Rattle.english_text.specs.English.{steps_text}
use Rattle.english_text.proofs.StepsTold.{next_sentence}
use Rattle.english_text.proofs.steps.put_steps.Goals as goal

pub loop-step-preserved : goal.loop-step-preserved
loop-step-preserved c =
    let task = c.args.task.now in
    let level = c.args.level in
    let steps = c.args.steps.now in
    let n = c.loop-step.step-index in
    let step = c.step-item.result in
    let so_far = c.loop-step.invariant in
    let left = dropped steps n step c.loop-step-test.true c.step-item.is in
    let before = c.loop-step.context in
    let after = c.put_step.new.context in record {
      inside = c.in_ok-put_step.ensures.inside;
      may = others_may task step (drop (n + 1) steps) (drop n steps) left before after c.in_ok-put_step.ensures.after so_far.may;
      text = next_sentence task level step (drop (n + 1) steps) (drop n steps) left before after c.in_ok-put_step.ensures.after c.loop-step.out
          c.put_step.new.out (c.args.out.now ++ steps_text task level steps c.args.context.now) c.in_ok-put_step.ensures.text so_far.text;
      after = next_after task step (drop (n + 1) steps) (drop n steps) left before after c.in_ok-put_step.ensures.after (after_steps task steps c.args.context.now)
          so_far.after;
    }
