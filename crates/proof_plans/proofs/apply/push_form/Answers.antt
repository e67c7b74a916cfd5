use Rattle.std.proofs.Common.{◌∙◌, ap, Some, length, true, false}
use Rattle.std.proofs.lemmas.Bool.{OnTrue_at, OnTrue_from}
use Rattle.proof_plans.specs.declared.draft.GoalOf.TheVariants as goal_of
use Rattle.proof_plans.specs.Drafts.{goals_from}
use Rattle.proof_plans.proofs.Taken.{widened_draft, with_more_goals, grown_by}
use Rattle.proof_plans.proofs.apply.push_form.Goals as goal

pub returns : goal.returns
returns c =
    let u = c.args.f.now.universals in let e = c.args.f.now.existentials in
    let goals = goals_from (goal_of.Premises c.args.form c.args.base) (Some c.args.number) c.args.node 0 (length c.args.f.now.premises) in
    OnTrue_from c.push_premises.result _
    (λ told. OnTrue_at told c.push_premises.ensures
    ∙ ap (with_more_goals goals) (c.if-not-widen-2.ensures
    ∙ ap (widened_draft e true) (c.if-not-widen.ensures
    ∙ ap (widened_draft u false) (c.if-not-push_step.ensures)))
    ∙ grown_by c.args.form c.args.f.now c.args.node c.args.base c.args.number c.args.draft.now c.requires.base c.requires.number)
