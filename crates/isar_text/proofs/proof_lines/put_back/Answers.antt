use Rattle.std.proofs.Common.{ℕ, List, ◌++◌, codes, ap, ◌∙◌}
use Rattle.std.proofs.lemmas.Result.{on_ok_weaker}
use Rattle.text_core.specs.Names.{Text}
use Rattle.isar_text.specs.Heads.{form_label}
use Rattle.isar_text.specs.Bodies.{by_blast, names_text, labels_text}
use Rattle.isar_text.proofs.LinesPut.{back_put}
use Rattle.isar_text.proofs.proof_lines.put_back.Goals as goal

pub returns : goal.returns
returns c =
    let step = c.args.step.now in
    on_ok_weaker c.extend_from_slice-3.result
    (back_put c.args.out.now (codes " using ") (form_label step.form) (labels_text step.used) (codes " (* ") (names_text step.args) (codes " *)") by_blast
    c.extend_from_slice.new.self c.put_form_label.new.out c.put_labels.new.out c.extend_from_slice-2.new.self c.put_names.new.out c.extend_from_slice-3.new.self
    c.in_ok-extend_from_slice.ensures.ok c.in_ok-put_form_label.ensures
    (c.in_ok-put_labels.ensures ∙ ap (λ (ls : List ℕ). c.put_form_label.new.out ++ labels_text ls) c.as_slice.ensures)
    c.in_ok-extend_from_slice-2.ensures.ok
    (c.in_ok-put_names.ensures ∙ ap (λ (ns : List Text). c.extend_from_slice-2.new.self ++ names_text ns) c.as_slice-2.ensures))
    c.extend_from_slice-3.ensures.ok
