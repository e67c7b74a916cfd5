use Rattle.std.proofs.Common.{map, ap, ◌∙◌}
use Rattle.std.proofs.lemmas.Result.{on_ok_weaker}
use Rattle.proof_text.specs.Printing.{printed}
use Rattle.english_text.proofs.StepsTold.{step_told}
use Rattle.english_text.proofs.steps.put_step.Goals as goal

pub returns-clause-text : goal.returns-clause-text
returns-clause-text c =
    on_ok_weaker c.put_mp.result
    (step_told c.args.task.now c.args.level c.args.context.now c.args.step.now c.in_ok-cite.cite c.as_slice-2.result.now c.as_slice-3.result.now
    c.in_ok-fresh.field-0.line c.args.out.now c.put_mp.new.out c.in_ok-cite.ensures
    (c.as_slice-2.ensures ∙ c.in_ok-args.ensures ∙ ap (map (printed c.args.task.now)) c.as_slice.ensures) c.in_ok-fresh.ensures.line
    (c.as_slice-3.ensures ∙ c.in_ok-fresh.ensures.fresh))
    c.put_mp.ensures
