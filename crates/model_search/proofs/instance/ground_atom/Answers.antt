use Rattle.std.proofs.Common.{refl, ap, length, arith}
use Rattle.logic_core.specs.declared.form.Slot.TheVariants.{Variable}
use Rattle.model_search.proofs.Sheets.{goes_more}
use Rattle.model_search.proofs.Instances.{elements_next, means_or}
use Rattle.model_search.proofs.instance.ground_atom.Goals as goal

pub loop-slot-preserved : goal.loop-slot-preserved
loop-slot-preserved c = record {
  goes = goes_more c.args.sheet.now c.loop-slot.sheet c.element.new.sheet c.loop-slot.invariant.goes c.in_ok-element.ensures.goes;
  elements = λ k. elements_next k c.args.values.now c.args.atom.now.args c.as_slice-slot-items.result.now c.loop-slot.slot-index (Variable 0)
      c.loop-slot.elements c.push.new.self c.in_ok-element.field-0 c.loop-slot.sheet c.element.new.sheet c.as_slice-slot-items.ensures
      c.loop-slot-test.true c.in_ok-push.ensures c.in_ok-element.ensures.goes (c.loop-slot.invariant.elements k) (c.in_ok-element.ensures.value k);
}

pub returns-clause-means : goal.returns-clause-means
returns-clause-means c = λ k.
    means_or k c.args.values.now c.args.atom.now _ c.loop-slot.slot-index c.loop-slot.sheet (let same = ap length c.as_slice-slot-items.ensures in omega arith) refl refl
    (c.loop-slot.invariant.elements k)
