use Rattle.std.proofs.Common.{◌≡◌, ◌∷◌, [], ◌++◌, List, ℕ, min, length, take, ◌∙◌, sym, ap, append_assoc, arith}
use Rattle.proof_plans.specs.declared.draft.Pair.{Pair}
use Rattle.proof_plans.specs.Drafts.{Drafted, with_pair}
use Rattle.proof_plans.specs.Scenes.{pairs_of, slot_variable}
use Rattle.proof_plans.proofs.Reading.{pairs_more, pairs_all}
use Rattle.proof_plans.proofs.scene.push_pairs.Goals as goal

abbrev with_pairs : List Pair → Drafted → Drafted
with_pairs pairs d = record d { pairs = d.pairs ++ pairs }

pub loop-at-preserved : goal.loop-at-preserved
loop-at-preserved c =
    let before = c.args.draft.now in
    let done : List Pair = pairs_of c.args.base c.args.other_base (take c.loop-at.at c.args.slots.now) (take c.loop-at.at c.args.others.now) in
    let last : Pair = record { left = slot_variable c.args.base c.in-Some-Some.slot; right = slot_variable c.args.other_base c.in-Some-Some.other } in
    let pair : record { left = c.in-Some-Some-2.left; right = c.in-Some-Some-2.right } ≡ last
    = λ i. record { left = c.in-Some-Some-2.ensures i; right = c.in-Some-Some-2.ensures' i } in
    c.if-not-push_pair.ensures
    ∙ ap (λ (p : Pair). with_pair p c.loop-at.draft) pair
    ∙ ap (with_pair last) c.loop-at.invariant
    ∙ ap (λ (ps : List Pair). record before { pairs = ps }) (append_assoc before.pairs done (last ∷ []))
    ∙ ap (λ (ps : List Pair). with_pairs ps before) (sym (pairs_more c.args.base c.args.other_base c.args.slots.now c.args.others.now c.loop-at.at c.in-Some-Some.slot c.in-Some-Some.other
    (sym c.item_at.ensures ∙ c.in-Some-Some.is-0) (sym c.item_at-in-loop-at.ensures ∙ c.in-Some-Some.is-1)))

pub returns : goal.returns
returns c =
    let before = c.args.draft.now in
    let count : c.loop-at.at ≡ min (length c.args.slots.now) (length c.args.others.now) = (let a : c.loop-at.at ≡ c.min-count.result = omega (arith, c.loop-at-test.false, c.loop-at.auto.at-end) in a ∙ c.min-count.ensures) in
    c.loop-at.invariant
    ∙ ap (λ (n : ℕ). with_pairs (pairs_of c.args.base c.args.other_base (take n c.args.slots.now) (take n c.args.others.now)) before) count
    ∙ ap (λ (ps : List Pair). with_pairs ps before) (pairs_all c.args.base c.args.other_base c.args.slots.now c.args.others.now)
