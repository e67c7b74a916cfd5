use Rattle.std.proofs.Common.{◌≡◌, ℕ, List, ap, subst}
use Rattle.std.proofs.lemmas.Bool.{OnTrue_at, OnTrue_from}
use Rattle.logic_core.specs.declared.form.Atom.{Atom}
use Rattle.vernacular_tree.specs.Contexts.{Task}
use Rattle.vernacular_tree.specs.Tasks.{IsTask}
use Rattle.vernacular_tree.specs.Witnessed.{IsContext}
use Rattle.vernacular_tree.specs.declared.context.Context.{Context}
use Rattle.proof_plans.specs.declared.choice.Choice.{Choice}
use Rattle.proof_plans.specs.declared.draft.PlanStep.{PlanStep}
use Rattle.proof_plans.specs.Plans.{Goal}
use Rattle.proof_plans.specs.Choices.{Begins, HasAll, Numbered}
use Rattle.proof_plans.specs.Drafts.{IsGoal, with_goal}
use Rattle.proof_plans.specs.Hopes.{Hope, GoalBy}
use Rattle.proof_plans.specs.Scenes.{IsScene}
use Rattle.proof_plans.specs.Ways.{IsByOld}
use Rattle.proof_plans.proofs.Gathered.{all_four, all_begins, begins_on}
use Rattle.proof_plans.proofs.Offered.{goal_offered}
use Rattle.proof_plans.proofs.collect.goal_choices.Goals as goal

pub returns-clause-all : goal.returns-clause-all
returns-clause-all c = OnTrue_from _ ((constants : ℕ) (task : Task) (lent : Context) (n : ℕ) → IsTask constants task → IsContext task lent → IsScene task lent c.args.scene.now
    → HasAll c.args.choices.now.items c.push_forms.new.choices.items
    (λ (way : Choice). (h : Hope task lent n (with_goal c.args.goal c.args.draft.now)) × GoalBy task lent n c.args.draft.now c.args.goal h way))
    (λ yes constants task lent n right ok shown.
    let atom : Atom = c.in-Some.read.atom.now in
    let alike : (is : Goal) → IsGoal task lent c.args.draft.now.nodes c.args.goal is → (is.atom.positive ≡ atom.positive) × (is.atom.symbol ≡ atom.symbol)
    = (λ is kept. let reads = c.in-Some.ensures constants task lent c.args.draft.now.nodes is right shown kept in
    (ap (λ (a : Atom). a.positive) reads.fact_is, ap (λ (a : Atom). a.symbol) reads.fact_is)) in
    let old : HasAll c.push_cases.new.choices.items c.push_steps.new.choices.items (Numbered (IsByOld atom c.args.scene.now.forms.now c.args.draft.now.steps))
    = subst (λ (steps : List PlanStep). HasAll c.push_cases.new.choices.items c.push_steps.new.choices.items (Numbered (IsByOld atom c.args.scene.now.forms.now steps))) c.steps.ensures c.if-not-push_steps.ensures in
    all_four _ _ _ _ _ _ _ _ _ _ c.if-not-push_given.ensures (c.if-not-push_cases.ensures.all task lent shown) old (OnTrue_at yes c.push_forms.ensures)
    (goal_offered task lent n c.args.draft.now c.args.scene.now shown c.args.goal atom alike))

pub returns-clause-more : goal.returns-clause-more
returns-clause-more c = OnTrue_from _ (Begins c.args.choices.now.items c.push_forms.new.choices.items) (λ yes.
    begins_on _ _ _ (begins_on _ _ _ (begins_on _ _ _ (all_begins _ _ _ c.if-not-push_given.ensures) c.if-not-push_cases.ensures.more) (all_begins _ _ _ c.if-not-push_steps.ensures))
    (all_begins _ _ _ (OnTrue_at yes c.push_forms.ensures)))
