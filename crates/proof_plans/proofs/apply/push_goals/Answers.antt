use Rattle.std.proofs.Common.{◌≡◌, ◌∷◌, [], ◌++◌, List, ℕ, ◌∙◌, sym, ap, append_assoc, arith}
use Rattle.proof_plans.specs.declared.draft.PlanGoal.{PlanGoal}
use Rattle.proof_plans.specs.Drafts.{with_goal, goals_from}
use Rattle.proof_plans.proofs.Taken.{with_goals_of, goals_more}
use Rattle.proof_plans.proofs.apply.push_goals.Goals as goal

pub loop-number-preserved : goal.loop-number-preserved
loop-number-preserved c =
    let before = c.args.draft.now in
    let done : List PlanGoal = goals_from c.args.of c.args.user c.args.node 0 c.loop-number.number in
    let last : PlanGoal = record { of = c.args.of; number = c.loop-number.number; user = c.args.user; node = c.args.node } in
    c.if-not-push_goal.ensures
    ∙ ap (with_goal last) c.loop-number.invariant
    ∙ ap (λ (gs : List PlanGoal). with_goals_of gs before) (append_assoc before.goals done (last ∷ []) ∙ ap (λ (gs : List PlanGoal). before.goals ++ gs) (sym (goals_more c.args.of c.args.user c.args.node c.loop-number.number)))

pub returns : goal.returns
returns c =
    let before = c.args.draft.now in
    let count : c.loop-number.number ≡ c.args.count = omega (arith, c.loop-number-test.false, c.loop-number.auto.number-end) in
    c.loop-number.invariant
    ∙ ap (λ (n : ℕ). with_goals_of (before.goals ++ goals_from c.args.of c.args.user c.args.node 0 n) before) count
