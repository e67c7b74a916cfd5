use Rattle.std.proofs.Common.{◌≡◌, inl, inr, ap, ◌∙◌, arith}
use Rattle.coherent_form.specs.ElementNames.{leading}
use Rattle.coherent_form.proofs.Printed.{most_next}
use Rattle.coherent_form.proofs.printed_element.prefix_letters.Goals as goal
use Rattle.coherent_form.proofs.printed_element.prefix_letters.Goals.{then-most-count, else-most-count}

pub loop-constant-preserved : goal.loop-constant-preserved
loop-constant-preserved c =
    let count : c.leading-count.result ≡ leading c.constant_name.result.now = c.leading-count.ensures.value ∙ ap leading c.bytes.ensures.value in
    let small = c.leading-count.ensures.few in
    record {
      most = most_next c.args.tables.now.constants c.loop-constant.constant c.constant_name.result.now c.loop-constant.most c.leading-count.result c.if-most-count.most
          c.constant_name.ensures c.loop-constant.invariant.most count
          (elim c.if-most-count.branch [ then-most-count w ↦ inl (w.if-most-count.true, w.most-is) | else-most-count w ↦ inr (w.if-most-count.false, w.most-is) ]);
      few = elim c.if-most-count.branch [ then-most-count w ↦ (let is = w.most-is in omega arith) | else-most-count w ↦ (let is = w.most-is in let before = c.loop-constant.invariant.few in omega arith) ];
    }
