use Rattle.std.proofs.Common.{arith}
use Rattle.std.proofs.lemmas.Result.{on_ok_weaker}
use Rattle.model_search.proofs.Placed.{some_next}
use Rattle.model_search.proofs.places.add_some.Goals as goal

pub loop-element-preserved : goal.loop-element-preserved
loop-element-preserved c = record {
  suited = λ k suited. c.in_ok-add.ensures.goes.suited k (c.loop-element.invariant.suited k suited);
  covers = λ k. some_next k c.args.constant c.loop-element.element c.loop-element.sheet c.add.new.self c.in_ok-add.ensures.goes
      (c.loop-element.invariant.covers k) (c.in_ok-add.ensures.covers k);
}

pub returns : goal.returns
returns c =
    on_ok_weaker c.finish.result
    (λ finish k is suited. finish k (c.loop-element.invariant.covers k (let below = is.placed c.args.constant in omega arith))
    (c.loop-element.invariant.suited k suited)) c.finish.ensures
