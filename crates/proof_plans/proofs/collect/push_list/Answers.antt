use Rattle.std.proofs.Common.{◌≡◌, ◌∙◌, List, sym, subst}
use Rattle.std.proofs.lemmas.Bool.{OnTrue_at, OnTrue_from}
use Rattle.logic_core.specs.declared.form.Atom.{Atom}
use Rattle.vernacular_tree.specs.Contexts.{Task}
use Rattle.vernacular_tree.specs.declared.context.Context.{Context}
use Rattle.proof_plans.specs.Choices.{Begins, HasAll}
use Rattle.proof_plans.specs.Scenes.{IsScene}
use Rattle.proof_plans.specs.Ways.{IsByFacts, IsByList}
use Rattle.proof_plans.proofs.Gathered.{all_also, all_begins}
use Rattle.proof_plans.proofs.collect.push_list.Goals as goal

pub returns-clause-all : goal.returns-clause-all
returns-clause-all c = OnTrue_from _ ((task : Task) (lent : Context) → IsScene task lent c.args.scene.now
    → HasAll c.args.choices.now.items c.push_facts.new.choices.items (IsByList task lent c.args.atom.now c.args.of c.args.kind))
    (λ yes task lent shown. all_also _ _ _ _ (OnTrue_at yes c.push_facts.ensures) (λ way w.
    let same : c.in-Some.facts.now ≡ w.atoms = c.in-Some.ensures task lent w.atoms w.variables shown w.listed in
    subst (λ (facts : List Atom). IsByFacts c.args.atom.now facts c.args.kind way) (sym (c.as_slice.ensures ∙ same)) w.by))

pub returns-clause-more : goal.returns-clause-more
returns-clause-more c = OnTrue_from _ (Begins c.args.choices.now.items c.push_facts.new.choices.items) (λ yes. all_begins _ _ _ (OnTrue_at yes c.push_facts.ensures))
