use Rattle.std.proofs.lemmas.Result.{on_ok_weaker}
use Rattle.model_search.proofs.Placed.{not_two}
use Rattle.model_search.proofs.places.add_not_both.Goals as goal

pub returns : goal.returns
returns c =
    on_ok_weaker c.finish.result
    (λ finish k suited. finish k
    (not_two k c.args.constant c.args.one c.args.other c.add.new.self c.add-2.new.self c.requires c.in_ok-add-2.ensures.goes
    (c.in_ok-add.ensures.covers k) (c.in_ok-add-2.ensures.covers k))
    (c.in_ok-add-2.ensures.goes.suited k (c.in_ok-add.ensures.goes.suited k (c.begin.ensures k suited)))) c.finish.ensures
