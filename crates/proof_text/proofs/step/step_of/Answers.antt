use Rattle.std.proofs.Common.{ap, ◌∙◌}
use Rattle.proof_text.specs.ScriptOf.{variables_of, args_of}
use Rattle.proof_text.proofs.StepWritten.{step_written}
use Rattle.proof_text.proofs.step.step_of.Goals as goal

pub returns-clause-text : goal.returns-clause-text
returns-clause-text c =
    let task = c.args.task.now in
    let step = c.args.step.now in
    step_written task c.args.context.now step c.take_step.ensures.right c.requires.may c.requires.inside c.args.edition c.in_ok-citation.field-0
    c.in_ok-args_of.field-0 c.in_ok-fresh.field-0.fresh c.in_ok-fresh.field-0.line c.in_ok-citation.ensures
    (c.in_ok-args_of.ensures ∙ ap (args_of c.args.edition task (variables_of task step.form)) c.as_slice.ensures)
    c.in_ok-fresh.ensures.fresh c.in_ok-fresh.ensures.line
