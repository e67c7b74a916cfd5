use Rattle.model_search.proofs.Instances.{placed_slot}
use Rattle.model_search.proofs.instance.element.Goals as goal

pub returns-in_ok-add-in-Constant-clause-value : goal.returns-in_ok-add-in-Constant-clause-value
returns-in_ok-add-in-Constant-clause-value c = λ k.
    placed_slot k c.args.values.now c.add.new.self c.args.slot c.in-Constant.constant c.in_ok-element-in-Constant.element c.in-Constant.is
    (c.in_ok-add-in-Constant.ensures.covers k)
