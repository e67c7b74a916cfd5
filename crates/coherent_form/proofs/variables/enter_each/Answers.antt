use Rattle.coherent_form.proofs.NameLists.{longer_twice, numbers_step}
use Rattle.coherent_form.proofs.variables.enter_each.Goals as goal

pub loop-variable-preserved : goal.loop-variable-preserved
loop-variable-preserved c =
    let at = c.loop-variable in
    let after = c.enter.new.names.keys in
    record {
      so_far = numbers_step at.names.keys after at.numbers c.push.new.self c.args.variables.now at.variable-index c.variable-item.result c.in_ok-enter.field-0
          c.loop-variable-test.true c.variable-item.is at.invariant.so_far c.enter.ensures.longer c.in_ok-enter.ensures.named c.in_ok-enter.ensures.there c.in_ok-push.ensures.ok;
      longer = longer_twice c.args.names.now.keys at.names.keys after at.invariant.longer c.enter.ensures.longer;
      distinct = c.enter.ensures.distinct;
    }
