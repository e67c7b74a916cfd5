use Rattle.std.proofs.Common.{◌∙◌, ap, sym, arith}
use Rattle.text_core.proofs.Laws.{take_all}
use Rattle.proof_plans.proofs.Repeats.{slots_of, same_next, same_facts}
use Rattle.proof_plans.proofs.barren.are_same.Goals as goal

pub loop-at-preserved : goal.loop-at-preserved
loop-at-preserved c = λ values agrees.
    same_next values c.args.read.now.base c.args.other_base c.as_slice-slots.result.now c.as_slice-others.result.now c.loop-at.at c.in-Some-Some.slot c.in-Some-Some.other
    (sym c.item_at.ensures ∙ c.in-Some-Some.is-0) (sym c.item_at-in-loop-at.ensures ∙ c.in-Some-Some.is-1) (c.loop-at.invariant values agrees) (c.if-not-are_one.ensures values agrees)

pub returns : goal.returns
returns c = λ values agrees.
    let own = ap (slots_of values c.args.read.now.base) (sym (take_all c.as_slice-slots.result.now c.loop-at.at c.loop-at-test.false)) in
    let others = ap (slots_of values c.args.other_base) (take_all c.as_slice-others.result.now c.loop-at.at (omega (arith, c.loop-at-test.false, c.if-slots-others.false))) in
    same_facts values c.args.read.now.base c.args.other_base c.args.read.now.atom.now c.args.other.now c.if-read-other-2.false c.if-read-other.false
    (ap (slots_of values c.args.other_base) (sym c.as_slice-others.ensures) ∙ sym others ∙ c.loop-at.invariant values agrees ∙ sym own ∙ ap (slots_of values c.args.read.now.base) c.as_slice-slots.ensures)
