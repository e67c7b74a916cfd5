use Rattle.std.proofs.Common.{◌≡◌, [], ◌∷◌, ◌++◌, List, Bool, ap, sym, ◌∙◌, append_assoc, replicate}
use Rattle.proof_plans.proofs.Rows.{replicate_more}
use Rattle.proof_plans.proofs.draft.repeat_if_room.Goals as goal

pub loop-done-preserved : goal.loop-done-preserved
loop-done-preserved c =
    let before = c.args.items.now.items in
    let pushed : c.push_if_room.new.items.items ≡ c.loop-done.items.items ++ c.args.item ∷ [] = c.if-not-push_if_room.ensures in
    pushed ∙ ap (λ (ns : List Bool). ns ++ c.args.item ∷ []) c.loop-done.invariant
    ∙ append_assoc before (replicate c.loop-done.done c.args.item) (c.args.item ∷ [])
    ∙ ap (λ (ns : List Bool). before ++ ns) (sym (replicate_more c.args.item c.loop-done.done))
