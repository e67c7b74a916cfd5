use Rattle.std.proofs.Common.{◌≡◌, ◌+◌, [], ◌∷◌, ◌++◌, List, ℕ, ap, sym, ◌∙◌, append_assoc}
use Rattle.vernacular_tree.specs.Contexts.{counted}
use Rattle.proof_plans.proofs.Rows.{counted_more}
use Rattle.proof_plans.proofs.draft.count_if_room.Goals as goal

pub loop-at-preserved : goal.loop-at-preserved
loop-at-preserved c =
    let before = c.args.items.now.items in
    let next : c.in-Some.next ≡ c.args.first + c.loop-at.at = c.in-Some.ensures.1 in
    let pushed : c.push_if_room.new.items.items ≡ c.loop-at.items.items ++ (c.args.first + c.loop-at.at) ∷ []
    = c.if-not-push_if_room.ensures ∙ ap (λ (n : ℕ). c.loop-at.items.items ++ n ∷ []) next in
    pushed ∙ ap (λ (ns : List ℕ). ns ++ (c.args.first + c.loop-at.at) ∷ []) c.loop-at.invariant
    ∙ append_assoc before (counted c.args.first c.loop-at.at) ((c.args.first + c.loop-at.at) ∷ [])
    ∙ ap (λ (ns : List ℕ). before ++ ns) (sym (counted_more c.args.first c.loop-at.at))
