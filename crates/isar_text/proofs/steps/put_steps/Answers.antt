use Rattle.std.proofs.Common.{◌+◌, ◌++◌, drop, refl}
use Rattle.proof_text.specs.ScriptOf.{after_steps}
use Rattle.proof_text.proofs.Laws.{dropped, others_may, next_after}
use Rattle.isar_text.specs.Bodies.{steps_text}
use Rattle.isar_text.proofs.FirstFacts.{grows_none, grows_more}
use Rattle.isar_text.proofs.StepsTold.{next_line}
use Rattle.isar_text.proofs.steps.put_steps.Goals as goal

pub loop-step-init : goal.loop-step-init
loop-step-init c = record {
  kept = c.requires.kept;
  may = c.requires.may;
  text = refl;
  after = refl;
  grows = grows_none c.args.branch.now.firsts;
}

pub loop-step-preserved : goal.loop-step-preserved
loop-step-preserved c =
    let task = c.args.task.now in
    let level = c.args.level in
    let steps = c.args.steps.now in
    let n = c.loop-step.step-index in
    let step = c.step-item.result in
    let so_far = c.loop-step.invariant in
    let left = dropped steps n step c.loop-step-test.true c.step-item.is in
    let before = c.loop-step.branch.context in
    let after = c.put_mp.new.branch.context in record {
      kept = c.in_ok-put_mp.ensures.kept;
      may = others_may task step (drop (n + 1) steps) (drop n steps) left before after c.in_ok-put_mp.ensures.after so_far.may;
      text = next_line task level step (drop (n + 1) steps) (drop n steps) left before after c.in_ok-put_mp.ensures.after c.loop-step.out c.put_mp.new.out
          (c.args.out.now ++ steps_text level task steps c.args.branch.now.context) c.in_ok-put_mp.ensures.text so_far.text;
      after = next_after task step (drop (n + 1) steps) (drop n steps) left before after c.in_ok-put_mp.ensures.after
          (after_steps task steps c.args.branch.now.context) so_far.after;
      grows = grows_more c.args.branch.now.firsts c.loop-step.branch.firsts c.put_mp.new.branch.firsts so_far.grows c.in_ok-put_mp.ensures.grows;
    }
