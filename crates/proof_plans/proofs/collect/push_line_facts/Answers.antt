use Rattle.std.proofs.Common.{◌≡◌, ◌∙◌, List, sym, subst}
use Rattle.std.proofs.lemmas.Bool.{OnTrue_at, OnTrue_from}
use Rattle.logic_core.specs.declared.form.Atom.{Atom}
use Rattle.vernacular_tree.specs.declared.context.Line.TheVariants.{Facts}
use Rattle.proof_plans.specs.declared.choice.Choice.TheVariants as choice
use Rattle.proof_plans.specs.Ways.{IsByFacts}
use Rattle.proof_plans.proofs.Gathered.{all_also}
use Rattle.proof_plans.proofs.collect.push_line_facts.Goals as goal

pub returns : goal.returns
returns c = OnTrue_from _ _ (λ yes. all_also _ _ _ _ (OnTrue_at yes c.push_facts.ensures) (λ way w.
    let told : Facts c.in-Facts.facts ≡ Facts w.facts = sym c.in-Facts.is ∙ w.line_is in
    let same : c.in-Facts.facts ≡ w.facts = cc in
    subst (λ (facts : List Atom). IsByFacts c.args.atom.now facts (choice.Given c.args.line 0) way) (sym (c.as_slice.ensures ∙ same)) w.by))
