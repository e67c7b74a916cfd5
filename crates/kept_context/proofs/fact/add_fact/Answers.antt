use Rattle.std.proofs.Common.{◌≡◌, ◌≤◌, take, length, ap, sym, ◌∙◌, subst}
use Rattle.std.proofs.lemmas.List.{length-map}
use Rattle.instance_cursor.specs.Facts.{elements_at, element_at}
use Rattle.kept_context.proofs.Added.{fact_added}
use Rattle.kept_context.proofs.Lists.{on_true, on_false}
use Rattle.kept_context.proofs.fact.add_fact.Goals as goal

pub returns : goal.returns
returns c =
    let elements = c.args.elements.now in
    let atom = c.args.atom.now in
    let args = take c.len.result c.write_elements.new.buffer in
    let are : args ≡ elements_at elements atom = ap (λ n. take n c.write_elements.new.buffer) c.len.ensures ∙ c.write_elements.ensures in
    let long : length args ≡ length atom.args = ap length are ∙ length-map atom.args (element_at elements) in
    fact_added elements atom c.args.store.now c.add.new.self args c.signed_number.result c.add.result c.signed_number.ensures are long
    c.requires.spare_fact (subst (λ n. n ≤ c.args.store.now.spare_args) (sym long) c.requires.spare_args) c.add.ensures.exact
    (on_true c.add.result _ c.add.ensures.added) (on_false c.add.result _ c.add.ensures.unchanged)
