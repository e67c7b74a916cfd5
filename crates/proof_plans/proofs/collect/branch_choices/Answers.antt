use Rattle.std.proofs.Common.{ℕ, List, subst}
use Rattle.std.proofs.lemmas.Bool.{OnTrue_at, OnTrue_from}
use Rattle.vernacular_tree.specs.Contexts.{Task}
use Rattle.vernacular_tree.specs.declared.context.Context.{Context}
use Rattle.proof_plans.specs.declared.choice.Choice.{Choice}
use Rattle.proof_plans.specs.declared.draft.PlanStep.{PlanStep}
use Rattle.proof_plans.specs.Choices.{Begins, HasAll, Numbered}
use Rattle.proof_plans.specs.Drafts.{with_branch}
use Rattle.proof_plans.specs.Hopes.{Hope, BranchBy}
use Rattle.proof_plans.specs.Scenes.{IsScene}
use Rattle.proof_plans.specs.Ways.{IsSplitByOld}
use Rattle.proof_plans.proofs.Gathered.{all_four, all_begins, begins_on}
use Rattle.proof_plans.proofs.Offered.{branch_offered}
use Rattle.proof_plans.proofs.collect.branch_choices.Goals as goal

pub returns-clause-all : goal.returns-clause-all
returns-clause-all c = OnTrue_from _ ((task : Task) (lent : Context) (n node : ℕ) → IsScene task lent c.args.scene.now
    → HasAll c.args.choices.now.items c.push_old.new.choices.items
    (λ (way : Choice). (h : Hope task lent n (with_branch node c.args.draft.now)) × BranchBy task lent n c.args.draft.now node h way))
    (λ yes task lent n node shown.
    let old : HasAll c.push_new.new.choices.items c.push_old.new.choices.items (Numbered (IsSplitByOld c.args.scene.now.forms.now c.args.draft.now.steps))
    = subst (λ (steps : List PlanStep). HasAll c.push_new.new.choices.items c.push_old.new.choices.items (Numbered (IsSplitByOld c.args.scene.now.forms.now steps))) c.steps.ensures (OnTrue_at yes c.push_old.ensures) in
    all_four _ _ _ _ _ _ _ _ _ _ c.if-not-push_answers.ensures c.if-not-push_lines.ensures c.if-not-push_new.ensures old
    (branch_offered task lent n c.args.draft.now c.args.scene.now shown node))

pub returns-clause-more : goal.returns-clause-more
returns-clause-more c = OnTrue_from _ (Begins c.args.choices.now.items c.push_old.new.choices.items) (λ yes.
    begins_on _ _ _ (begins_on _ _ _ (begins_on _ _ _ (all_begins _ _ _ c.if-not-push_answers.ensures) (all_begins _ _ _ c.if-not-push_lines.ensures)) (all_begins _ _ _ c.if-not-push_new.ensures))
    (all_begins _ _ _ (OnTrue_at yes c.push_old.ensures)))
