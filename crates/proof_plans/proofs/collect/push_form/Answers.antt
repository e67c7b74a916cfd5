use Rattle.std.proofs.Common.{◌≡◌, ◌∙◌, List, [], ◌∷◌, get_or, ap, sym, subst}
use Rattle.std.proofs.lemmas.Bool.{OnTrue_at, OnTrue_from}
use Rattle.logic_core.specs.declared.form.Atom.{Atom}
use Rattle.logic_core.specs.declared.form.Form.{Form}
use Rattle.proof_plans.specs.Ways.{IsByFacts}
use Rattle.proof_plans.proofs.Reading.{item_read}
use Rattle.proof_plans.proofs.Gathered.{all_also}
use Rattle.proof_plans.proofs.collect.push_form.Goals as goal

pub returns-in-len1 : goal.returns-in-len1
returns-in-len1 c = OnTrue_from _ _ (λ yes. all_also _ _ _ _ (OnTrue_at yes c.push_facts.ensures) (λ way w.
    let form : c.in-Some.form.now ≡ w.f = item_read c.place_at.result c.in-Some.form c.args.forms.now c.args.form w.f c.place_at.ensures c.in-Some.is w.f_is in
    let lists : c.as_slice.result.now ≡ w.facts ∷ [] = c.as_slice.ensures ∙ ap (λ (f : Form). f.disjuncts) form ∙ w.one in
    let same : c.facts-item.result ≡ w.facts = c.facts-item.is ∙ ap (λ (ls : List (List Atom)). get_or ls 0 c.facts-item.result) lists in
    subst (λ (facts : List Atom). IsByFacts c.args.atom.now facts c.args.kind way) (sym (c.as_slice-in-len1.ensures ∙ same)) w.by))
