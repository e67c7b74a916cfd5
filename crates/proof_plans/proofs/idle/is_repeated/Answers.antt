use Rattle.std.proofs.Common.{◌∙◌, ap, sym, map, arith}
use Rattle.text_core.proofs.Laws.{take_all}
use Rattle.vernacular_tree.specs.Contexts.{slot_at}
use Rattle.proof_plans.proofs.Differing.{slot_next, same_atoms}
use Rattle.proof_plans.proofs.idle.is_repeated.Goals as goal

pub loop-at-preserved : goal.loop-at-preserved
loop-at-preserved c = λ values one.
    slot_next values c.as_slice-slots.result.now c.as_slice-others.result.now c.loop-at.at c.in-Some-Some.slot c.in-Some-Some.other
    (sym c.item_at.ensures ∙ c.in-Some-Some.is-0) (sym c.item_at-in-loop-at.ensures ∙ c.in-Some-Some.is-1) (c.loop-at.invariant values one)
    (c.if-not-are_one_where.ensures values one)

pub returns : goal.returns
returns c = λ values one.
    let own = ap (map (slot_at values)) (sym (take_all c.as_slice-slots.result.now c.loop-at.at c.loop-at-test.false)) in
    let others = ap (map (slot_at values)) (take_all c.as_slice-others.result.now c.loop-at.at (omega (arith, c.loop-at-test.false, c.if-slots-others.false))) in
    same_atoms values c.args.fact.now c.args.premise.now c.if-fact-premise-2.false c.if-fact-premise.false
    (ap (map (slot_at values)) (sym c.as_slice-others.ensures) ∙ sym others ∙ c.loop-at.invariant values one ∙ sym own ∙ ap (map (slot_at values)) c.as_slice-slots.ensures)
