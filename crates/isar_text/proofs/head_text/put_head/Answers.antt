use Rattle.std.proofs.Common.{ℕ, List, ◌++◌, map, ap, ◌∙◌}
use Rattle.std.proofs.lemmas.Result.{on_ok_weaker}
use Rattle.logic_core.specs.declared.form.Form.{Form}
use Rattle.vernacular_tree.specs.Contexts.{counted, parameters}
use Rattle.coherent_form.specs.Tasks.{proof_task, start_elements}
use Rattle.isar_text.specs.Formulas.{facts_text, goal_text}
use Rattle.isar_text.specs.Heads.{element_text, spaced, line_label, assumption_line, forms_text, start_facts}
use Rattle.isar_text.proofs.HeadWritten.{head_put}
use Rattle.isar_text.proofs.head_text.put_head.Goals as goal

pub returns : goal.returns
returns c =
    let task = c.args.task.now in
    on_ok_weaker c.extend_from_slice-3.result
    (head_put c.args.out.now (spaced (map (element_text task) (counted 0 (start_elements task)))) (forms_text task.tables 0 task.forms)
    (assumption_line (line_label 0) (facts_text (start_facts task)))
    (goal_text task.tables (map (element_text task) (parameters (proof_task task))) task.goal)
    c.extend_from_slice.new.self c.put_elements.new.out c.push.new.self c.put_forms.new.out c.put_start.new.out c.extend_from_slice-2.new.self c.put_goal.new.out
    c.extend_from_slice-3.new.self c.in_ok-extend_from_slice.ensures.ok
    (c.in_ok-put_elements.ensures ∙ ap (λ (n : ℕ). c.extend_from_slice.new.self ++ spaced (map (element_text task) (counted 0 n))) c.start_elements.ensures.value)
    c.in_ok-push.ensures.ok
    (c.in_ok-put_forms.ensures ∙ ap (λ (fs : List Form). c.push.new.self ++ forms_text task.tables 0 fs) (c.as_slice.ensures ∙ c.forms.ensures.value))
    c.in_ok-put_start.ensures c.in_ok-extend_from_slice-2.ensures.ok
    (c.in_ok-put_goal.ensures ∙ ap (λ (es : List ℕ). c.extend_from_slice-2.new.self ++ goal_text task.tables (map (element_text task) es) task.goal)
    (c.as_slice-3.ensures ∙ c.in_ok-parameters.ensures)))
    c.extend_from_slice-3.ensures.ok
