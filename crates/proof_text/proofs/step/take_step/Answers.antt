use Rattle.std.proofs.Common.{map, ap, ◌∙◌}
use Rattle.logic_core.specs.declared.form.Form.{Form}
use Rattle.vernacular_tree.specs.Contexts.{counted}
use Rattle.proof_text.specs.Printing.{printed, printed_line}
use Rattle.proof_text.proofs.StepWritten.{form_read, line_given, line_given_fits, after_written, after_written_inside}
use Rattle.proof_text.proofs.step.take_step.Goals as goal

pub named_line-requires : goal.named_line-requires
named_line-requires c =
    let task = c.args.task.now in
    let step = c.args.step.now in
    let context = c.args.context.now in
    let may = c.requires.may in
    let form = form_read task c.as_slice.result.now step.form c.index-as_slice-step.result may.0 (c.as_slice.ensures ∙ c.forms.ensures.value) c.index-as_slice-step.is may.1 in
    let line = line_given task context step c.index-as_slice-step.result c.as_slice-2.result.now c.as_slice-3.result.now c.in_ok-line.line form c.as_slice-2.ensures
    (c.as_slice-3.ensures ∙ c.in_ok-fresh.ensures) c.in_ok-line.ensures in
    line_given_fits task context step c.forms.ensures.right may c.in_ok-line.line line

pub returns-clause-fresh : goal.returns-clause-fresh
returns-clause-fresh c =
    let task = c.args.task.now in
    let step = c.args.step.now in
    let context = c.args.context.now in
    let may = c.requires.may in
    let form = form_read task c.as_slice.result.now step.form c.index-as_slice-step.result may.0 (c.as_slice.ensures ∙ c.forms.ensures.value) c.index-as_slice-step.is may.1 in
    c.in_ok-element_names.ensures ∙ ap (map (printed task)) (c.as_slice-4.ensures ∙ c.in_ok-fresh.ensures
    ∙ ap (λ (f : Form). counted context.elements f.existentials) form)

pub returns-clause-line : goal.returns-clause-line
returns-clause-line c =
    let task = c.args.task.now in
    let step = c.args.step.now in
    let context = c.args.context.now in
    let may = c.requires.may in
    let form = form_read task c.as_slice.result.now step.form c.index-as_slice-step.result may.0 (c.as_slice.ensures ∙ c.forms.ensures.value) c.index-as_slice-step.is may.1 in
    let line = line_given task context step c.index-as_slice-step.result c.as_slice-2.result.now c.as_slice-3.result.now c.in_ok-line.line form c.as_slice-2.ensures
    (c.as_slice-3.ensures ∙ c.in_ok-fresh.ensures) c.in_ok-line.ensures in
    c.in_ok-named_line.ensures ∙ ap (printed_line task) line

pub returns-clause-after : goal.returns-clause-after
returns-clause-after c =
    let task = c.args.task.now in
    let step = c.args.step.now in
    let context = c.args.context.now in
    let may = c.requires.may in
    let form = form_read task c.as_slice.result.now step.form c.index-as_slice-step.result may.0 (c.as_slice.ensures ∙ c.forms.ensures.value) c.index-as_slice-step.is may.1 in
    let line = line_given task context step c.index-as_slice-step.result c.as_slice-2.result.now c.as_slice-3.result.now c.in_ok-line.line form c.as_slice-2.ensures
    (c.as_slice-3.ensures ∙ c.in_ok-fresh.ensures) c.in_ok-line.ensures in
    after_written task context step c.in_ok-after.after c.push.new.self c.index-as_slice-step.result c.in_ok-line.line form c.in_ok-after.ensures
    c.in_ok-push.ensures.ok line

pub returns-clause-inside : goal.returns-clause-inside
returns-clause-inside c =
    let task = c.args.task.now in
    let step = c.args.step.now in
    let context = c.args.context.now in
    let may = c.requires.may in
    let form = form_read task c.as_slice.result.now step.form c.index-as_slice-step.result may.0 (c.as_slice.ensures ∙ c.forms.ensures.value) c.index-as_slice-step.is may.1 in
    let line = line_given task context step c.index-as_slice-step.result c.as_slice-2.result.now c.as_slice-3.result.now c.in_ok-line.line form c.as_slice-2.ensures
    (c.as_slice-3.ensures ∙ c.in_ok-fresh.ensures) c.in_ok-line.ensures in
    after_written_inside task context step c.forms.ensures.right c.requires.inside may (record { elements = c.in_ok-after.after; lines = c.push.new.self })
    (after_written task context step c.in_ok-after.after c.push.new.self c.index-as_slice-step.result c.in_ok-line.line form c.in_ok-after.ensures
    c.in_ok-push.ensures.ok line)
