use Rattle.model_search.proofs.Nearby.{near_fair}
use Rattle.model_search.proofs.near.add_near.Goals as goal

pub returns : goal.returns
returns c = λ fair.
    near_fair c.args.size c.args.rules.now c.args.count c.loop-greatest.near c.loop-greatest.sheet (c.loop-greatest.invariant c.args.count c.requires fair)
