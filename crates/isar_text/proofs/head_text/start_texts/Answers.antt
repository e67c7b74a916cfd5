use Rattle.std.proofs.Common.{◌≡◌, List, ap, ◌∙◌, subst}
use Rattle.std.specs.Result.{IfOk}
use Rattle.text_core.specs.Names.{Text}
use Rattle.logic_core.specs.declared.form.Form.{Form}
use Rattle.isar_text.proofs.HeadWritten.{start_fits, start_written}
use Rattle.isar_text.proofs.head_text.start_texts.Goals as goal

pub named_facts-requires : goal.named_facts-requires
named_facts-requires c =
    start_fits c.args.task.now c.goal.ensures.right c.args.parameters.now c.requires c.as_slice-premises.result.now c.as_slice.result.now
    (c.as_slice-premises.ensures ∙ ap (λ (f : Form). f.premises) c.goal.ensures.value) (c.as_slice.ensures ∙ c.in_ok-facts.ensures)

pub returns : goal.returns
returns c =
    subst (λ (t : List Text). IfOk c.atom_texts.result (λ texts. texts ≡ t))
    (start_written c.args.task.now c.goal.ensures.right c.args.parameters.now c.requires c.as_slice-premises.result.now c.as_slice.result.now
    (c.as_slice-premises.ensures ∙ ap (λ (f : Form). f.premises) c.goal.ensures.value) (c.as_slice.ensures ∙ c.in_ok-facts.ensures) c.as_slice-2.result.now
    (c.as_slice-2.ensures ∙ c.in_ok-named.ensures))
    c.atom_texts.ensures
