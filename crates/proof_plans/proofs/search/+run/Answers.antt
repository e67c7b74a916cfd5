use Rattle.std.proofs.Common.{◌≡◌, ℕ, ◌≤◌, ◌∙◌, ap, sym, subst, refl, arith, List, take, length, slice_get}
use Rattle.std.proofs.lemmas.Bool.{OnFalse_at, OnFalse_from}
use Rattle.vernacular_tree.specs.Contexts.{Task}
use Rattle.vernacular_tree.specs.declared.context.Context.{Context}
use Rattle.proof_plans.specs.declared.choice.Choice.{Choice}
use Rattle.proof_plans.specs.Drafts.{Drafted, cut, with_goal, with_pair}
use Rattle.proof_plans.specs.Hopes.{Hope, with_open, OpenBy, IsHopeless}
use Rattle.proof_plans.specs.Landmarks.{AreLandmarks}
use Rattle.proof_plans.specs.Scenes.{IsScene, Extends}
use Rattle.proof_plans.proofs.Searched.{put_hope, goal_out, pair_out, pair_clash, pair_bind, cut_back, joined_at, bind_back}
use Rattle.proof_plans.specs.declared.joining.Joined.TheVariants as joined
use Rattle.proof_plans.proofs.Tried.{shown, put_back, ruled_next, all_ruled_out, first_kept}
use Rattle.proof_plans.proofs.search.+run.Goals as goal

pub close-loop-at-preserved : goal.close-loop-at-preserved
close-loop-at-preserved t c = record {
  cut = λ was. c.if-run.ensures.cut (c.loop-at.invariant.cut was);
  draft = c.back.ensures ∙ ap (cut c.mark-mark.result) c.if-run.ensures.draft ∙ ap (λ (m : _). cut m c.take.new.draft) c.mark-mark.ensures
      ∙ cut_back c.args.draft.now c.take.new.draft (subst (λ (d : Drafted). Extends d c.take.new.draft) c.loop-at.invariant.draft c.if-not-take.ensures.more);
  choices = c.if-run.ensures.choices ∙ c.loop-at.invariant.choices;
  ruled = λ task lent is are. ruled_next task lent c.args.most c.loop-at.work.cut c.run.new.work.cut c.args.draft.now c.args.left c.loop-at.work.choices.items c.run.new.work.choices.items
      c.count-first.result c.loop-at.at c.in-Some.choice c.take.new.draft c.if-run.ensures.choices c.if-run.ensures.cut
      (ap (λ (ways : List Choice). slice_get ways c.loop-at.at) (sym c.as_slice.ensures.value) ∙ sym c.item_at.ensures ∙ c.in-Some.is)
      (c.loop-at.invariant.ruled task lent is are)
      (subst (λ (d : Drafted). (n : ℕ) (h : Hope task lent n (with_open c.args.left d)) → OpenBy task lent n d c.args.left h c.in-Some.choice → Hope task lent n c.take.new.draft) c.loop-at.invariant.draft
      (λ n h by. c.if-not-take.ensures.hope task lent n is h by))
      (c.if-run.ensures.hopeless task lent is are);
}

pub close-returns-clause-choices : goal.close-returns-clause-choices
close-returns-clause-choices t c =
    c.truncate.ensures.items ∙ ap (take c.count-first.result) c.loop-at.invariant.choices
    ∙ first_kept c.args.work.now.choices.items c.gather.new.choices.items c.count-first.result c.if-not-gather.ensures.more c.count-first.ensures

pub close-returns-clause-hopeless : goal.close-returns-clause-hopeless
close-returns-clause-hopeless t c = λ task lent is are.
    all_ruled_out task lent c.args.most c.loop-at.work.cut c.args.draft.now c.args.left c.args.work.now.choices.items c.loop-at.work.choices.items
    (λ constants n right ok. subst (λ (ways : List Choice). Rattle.proof_plans.specs.Choices.HasAll c.args.work.now.choices.items ways
    (λ (way : Choice). (h : Hope task lent n (with_open c.args.left c.args.draft.now)) × OpenBy task lent n c.args.draft.now c.args.left h way)) (sym c.loop-at.invariant.choices)
    (c.if-not-gather.ensures.all constants task lent n right ok is))
    c.count-first.result c.loop-at.at (let e = c.count-first.ensures in omega (arith, e)) (let e = c.count-end.ensures in let same = ap length c.loop-at.invariant.choices in let low = c.loop-at-test.false in omega (arith, e, same, low)) (c.loop-at.invariant.ruled task lent is are)

pub close_goal-returns-then-is_out_of_reach-clause-hopeless :
    goal.close_goal-returns-then-is_out_of_reach-clause-hopeless
close_goal-returns-then-is_out_of_reach-clause-hopeless t c = λ task lent is are n small h. c.if-is_out_of_reach.ensures task lent n is h

pub close_goal-returns-then-is_standing-clause-hopeless :
    goal.close_goal-returns-then-is_standing-clause-hopeless
close_goal-returns-then-is_standing-clause-hopeless t c = OnFalse_from c.run.result
    ((task : Task) (lent : Context) → IsScene task lent c.args.scene.now → AreLandmarks task lent c.args.landmarks.now → IsHopeless task lent c.args.most c.run.new.work.cut (with_goal c.args.goal c.args.draft.now))
    (λ no task lent is are n small h. OnFalse_at no c.run.ensures.hopeless task lent is are n small (goal_out task lent n c.args.goal c.args.draft.now h))

pub run-returns-then-cost-most-clause-hopeless : goal.run-returns-then-cost-most-clause-hopeless
run-returns-then-cost-most-clause-hopeless t c = λ task lent is are n small h.
    let low : n ≤ c.args.most = small refl in
    let least = c.in-Some.ensures task lent n are h in
    let more = c.if-cost-most.true in
    absurd (omega (arith, low, least, more))

pub run-returns-in-Some-pop_pair-clause-hopeless :
    goal.run-returns-in-Some-pop_pair-clause-hopeless
run-returns-in-Some-pop_pair-clause-hopeless t c = OnFalse_from c.take_pair.result
    ((task : Task) (lent : Context) → IsScene task lent c.args.scene.now → AreLandmarks task lent c.args.landmarks.now → IsHopeless task lent c.args.most c.take_pair.new.work.cut c.args.draft.now)
    (λ no task lent is are n small h. OnFalse_at no c.take_pair.ensures.hopeless task lent is are n small (subst (Hope task lent n) c.in-Some-pop_pair.ensures h))

pub run-returns-then-is_impossible-clause-hopeless :
    goal.run-returns-then-is_impossible-clause-hopeless
run-returns-then-is_impossible-clause-hopeless t c = λ task lent is are n small h. c.if-is_impossible.ensures task lent n (subst (Hope task lent n) (sym c.in_default-pop_pair.ensures) h)

pub run-returns-then-has_barren-clause-hopeless :
    goal.run-returns-then-has_barren-clause-hopeless
run-returns-then-has_barren-clause-hopeless t c = λ task lent is are n small h. c.if-has_barren.ensures task lent n is (subst (Hope task lent n) (sym c.in_default-pop_pair.ensures) h)

pub run-returns-then-has_useless-clause-hopeless :
    goal.run-returns-then-has_useless-clause-hopeless
run-returns-then-has_useless-clause-hopeless t c = λ task lent is are n small h. c.if-has_useless.ensures task lent n is (subst (Hope task lent n) (sym c.in_default-pop_pair.ensures) h)

pub run-returns-else-close_goal-clause-hopeless : goal.run-returns-else-close_goal-clause-hopeless
run-returns-else-close_goal-clause-hopeless t c = shown _
    ((task : Task) (lent : Context) → IsScene task lent c.args.scene.now → AreLandmarks task lent c.args.landmarks.now → IsHopeless task lent c.args.most c.close_goal.new.work.cut c.args.draft.now)
    (λ task lent is are n small h. c.if-close_goal.ensures.hopeless task lent is are n small
    (put_hope task lent n c.next_goal-at.result c.in-Some-take_goal.goal c.take_goal.new.self
    (subst (Hope task lent n) (sym c.in_default-pop_pair.ensures ∙ c.in-Some-take_goal.ensures) h)))

pub run-returns-else-close-clause-hopeless : goal.run-returns-else-close-clause-hopeless
run-returns-else-close-clause-hopeless t c = shown _
    ((task : Task) (lent : Context) → IsScene task lent c.args.scene.now → AreLandmarks task lent c.args.landmarks.now → IsHopeless task lent c.args.most c.close.new.work.cut c.args.draft.now)
    (λ task lent is are n small h. c.if-close.ensures.hopeless task lent is are n small
    (subst (Hope task lent n) (sym c.in_default-pop_pair.ensures ∙ sym c.in_default-take_goal.ensures ∙ c.in-Some-pop_branch.ensures) h))

pub run-returns-clause-hopeless : goal.run-returns-clause-hopeless
run-returns-clause-hopeless t c = OnFalse_from c.may_stand.result
    ((task : Task) (lent : Context) → IsScene task lent c.args.scene.now → AreLandmarks task lent c.args.landmarks.now → IsHopeless task lent c.args.most c.args.work.now.cut c.args.draft.now)
    (λ no task lent is are n small h. OnFalse_at no c.may_stand.ensures.hopeless task lent n is
    (subst (Hope task lent n) (sym c.in_default-pop_pair.ensures ∙ sym c.in_default-take_goal.ensures ∙ sym c.in_default-pop_branch.ensures) h))

pub take_pair-returns-in-Clash-clause-hopeless : goal.take_pair-returns-in-Clash-clause-hopeless
take_pair-returns-in-Clash-clause-hopeless t c = shown _
    ((task : Task) (lent : Context) → IsScene task lent c.args.scene.now → AreLandmarks task lent c.args.landmarks.now → IsHopeless task lent c.args.most c.args.work.now.cut (with_pair c.args.pair c.args.draft.now))
    (λ task lent is are n small h. pair_clash task lent n c.args.pair c.args.draft.now
    (joined_at _ _ _ _ _ _ c.args.pair.left c.args.pair.right joined.Clash c.start.ensures c.bound.ensures c.fixed.ensures c.in-Clash.ensures) h)

pub take_pair-returns-else-run-clause-hopeless : goal.take_pair-returns-else-run-clause-hopeless
take_pair-returns-else-run-clause-hopeless t c = shown _
    ((task : Task) (lent : Context) → IsScene task lent c.args.scene.now → AreLandmarks task lent c.args.landmarks.now → IsHopeless task lent c.args.most c.run.new.work.cut (with_pair c.args.pair c.args.draft.now))
    (λ task lent is are n small h. c.if-run.ensures.hopeless task lent is are n small (pair_out task lent n c.args.pair c.args.draft.now h))

pub take_pair-returns-else-run-2-clause-draft : goal.take_pair-returns-else-run-2-clause-draft
take_pair-returns-else-run-2-clause-draft t c = put_back c.push_pair-in-Bind.result (c.push_pair-in-Bind.new.self ≡ with_pair c.args.pair c.bind-in-Bind.new.self)
    (c.push_pair-in-Bind.new.self ≡ with_pair c.args.pair c.args.draft.now)
    (λ pushed. pushed ∙ ap (with_pair c.args.pair) (bind_back c.args.draft.now c.bind.new.self c.run-in-Bind.new.draft c.bind-in-Bind.new.self c.in-Bind.at c.in-Bind.to c.in-Some.free
    c.bind.ensures c.if-run-2.ensures.draft c.bind-in-Bind.ensures
    (ap (λ (l : List ℕ). slice_get l c.in-Bind.at) (sym c.bound-in-Bind.ensures) ∙ sym c.item_at.ensures ∙ c.in-Some.is))) c.push_pair-in-Bind.ensures

pub take_pair-returns-else-run-2-clause-hopeless : goal.take_pair-returns-else-run-2-clause-hopeless
take_pair-returns-else-run-2-clause-hopeless t c = shown _
    ((task : Task) (lent : Context) → IsScene task lent c.args.scene.now → AreLandmarks task lent c.args.landmarks.now → IsHopeless task lent c.args.most c.run-in-Bind.new.work.cut (with_pair c.args.pair c.args.draft.now))
    (λ task lent is are n small h. c.if-run-2.ensures.hopeless task lent is are n small
    (subst (Hope task lent n) (sym c.bind.ensures) (pair_bind task lent n c.args.pair c.args.draft.now c.in-Bind.at c.in-Bind.to
    (joined_at _ _ _ _ _ _ c.args.pair.left c.args.pair.right (joined.Bind c.in-Bind.at c.in-Bind.to) c.start.ensures c.bound.ensures c.fixed.ensures c.in-Bind.ensures) h)))
