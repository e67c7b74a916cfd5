use Rattle.std.proofs.Common.{◌≡◌, ℕ, List, ◌++◌, map, ap, ◌∙◌, subst}
use Rattle.std.specs.Result.{IfOk}
use Rattle.logic_core.specs.declared.form.Atom.{Atom}
use Rattle.logic_core.specs.declared.form.Form.{Form}
use Rattle.vernacular_tree.specs.Contexts.{atom_at}
use Rattle.proof_text.specs.Printing.{printed_facts}
use Rattle.english_text.proofs.EndsRead.{answer_read, answer_fits}
use Rattle.english_text.proofs.ends.answer_facts.Goals as goal

pub named_facts-requires : goal.named_facts-requires
named_facts-requires c =
    let task = c.args.task.now in
    let there = c.requires.there in
    let facts = answer_read task c.args.disjunct c.args.args.now there.0 there.1 c.as_slice.result.now c.as_slice-2.result.now c.index-as_slice-disjunct.result
    c.as_slice-4.result.now (c.as_slice.ensures ∙ ap (λ (f : Form). f.disjuncts) c.goal.ensures.value) c.index-as_slice-disjunct.is
    (c.as_slice-2.ensures ∙ c.in_ok-extend_from_slice.ensures.ok ∙ ap (λ (es : List ℕ). es ++ c.args.args.now) c.in_ok-elements.ensures)
    (c.as_slice-4.ensures ∙ c.in_ok-facts.ensures ∙ ap (map (atom_at c.as_slice-2.result.now)) c.as_slice-3.ensures) in
    answer_fits task c.args.disjunct c.args.args.now there.0 there.1 c.goal.ensures.right c.as_slice-4.result.now facts

pub returns : goal.returns
returns c =
    let task = c.args.task.now in
    let there = c.requires.there in
    let facts = answer_read task c.args.disjunct c.args.args.now there.0 there.1 c.as_slice.result.now c.as_slice-2.result.now c.index-as_slice-disjunct.result
    c.as_slice-4.result.now (c.as_slice.ensures ∙ ap (λ (f : Form). f.disjuncts) c.goal.ensures.value) c.index-as_slice-disjunct.is
    (c.as_slice-2.ensures ∙ c.in_ok-extend_from_slice.ensures.ok ∙ ap (λ (es : List ℕ). es ++ c.args.args.now) c.in_ok-elements.ensures)
    (c.as_slice-4.ensures ∙ c.in_ok-facts.ensures ∙ ap (map (atom_at c.as_slice-2.result.now)) c.as_slice-3.ensures) in
    subst (λ (fs : List Atom). IfOk c.named_facts.result (λ named. named ≡ printed_facts task fs)) facts c.named_facts.ensures
