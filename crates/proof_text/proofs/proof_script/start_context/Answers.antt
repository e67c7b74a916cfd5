use Rattle.std.proofs.Common.{◌≡◌, [], ◌∷◌, ◌++◌, map, sym, ◌∙◌, ap, subst}
use Rattle.logic_core.specs.declared.form.Form.{Form}
use Rattle.vernacular_tree.specs.Contexts.{parameters, atom_at, start_context}
use Rattle.vernacular_tree.specs.declared.context.Line.TheVariants.{Facts}
use Rattle.coherent_form.specs.Tasks.{proof_task}
use Rattle.proof_text.specs.Showing.{IsInside}
use Rattle.proof_text.proofs.Inside.{start_inside}
use Rattle.proof_text.proofs.proof_script.start_context.Goals as goal

pub returns-clause-inside : goal.returns-clause-inside
returns-clause-inside c =
    let task = c.args.task.now in
    let premises = c.as_slice-premises.ensures ∙ ap (λ (f : Form). f.premises) c.goal.ensures.value in
    let facts : c.in_ok-facts_at.field-0 ≡ map (atom_at (parameters (proof_task task))) task.goal.premises
    = c.in_ok-facts_at.ensures ∙ (λ i. map (atom_at (c.requires i)) (premises i)) in
    let lines = c.in_ok-push.ensures.ok ∙ (λ i. c.new-lines.ensures i ++ Facts (facts i) ∷ []) in
    let value : record { elements = c.start_elements.result; lines = c.push.new.self } ≡ start_context (proof_task task)
    = λ i. record { elements = c.start_elements.ensures.value i; lines = lines i } in
    subst (IsInside task) (sym value) (start_inside task c.goal.ensures.right)
