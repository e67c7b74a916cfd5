use Rattle.std.proofs.Common.{List, ◌++◌, ◌∙◌, ap, sym, map}
use Rattle.text_core.proofs.Laws.{take_all}
use Rattle.logic_core.specs.declared.form.Slot.{Slot}
use Rattle.vernacular_tree.specs.Contexts.{slot_at}
use Rattle.proof_plans.specs.Landmarks.{digits}
use Rattle.proof_plans.proofs.FactSets.{number_next}
use Rattle.proof_plans.proofs.fact_set.number_of.Goals as goal

pub loop-at-preserved : goal.loop-at-preserved
loop-at-preserved c = λ more.
    number_next c.args.base c.args.first (slot_at (c.args.values.now ++ more)) c.args.slots.now c.loop-at.at c.in_ok-slot.slot
    c.loop-at.number c.in_ok-checked_mul.field-0 c.in_ok-element.element c.in_ok-number.number
    (sym c.item_at.ensures ∙ c.in_ok-slot.was) c.in_ok-number.ensures.1 c.in_ok-checked_mul.ensures.1 (c.loop-at.invariant more) (c.in_ok-element.ensures more)

pub returns : goal.returns
returns c = λ more. c.loop-at.invariant more
    ∙ ap (λ (slots : List Slot). digits c.args.base c.args.first (map (slot_at (c.args.values.now ++ more)) slots)) (take_all c.args.slots.now c.loop-at.at c.loop-at-test.false)
