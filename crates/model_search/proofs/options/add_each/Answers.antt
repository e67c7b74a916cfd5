use Rattle.std.proofs.lemmas.Result.{on_ok_weaker}
use Rattle.model_search.proofs.Disjuncts.{last_true}
use Rattle.model_search.proofs.options.add_each.Goals as goal

pub returns-in-Some-clause-covers : goal.returns-in-Some-clause-covers
returns-in-Some-clause-covers c =
    on_ok_weaker c.add_true.result
    (λ covers k all. covers k (last_true k c.args.grounds.items c.pop.new.self.items c.in-Some.fact c.in-Some.ensures.items all))
    c.add_true.ensures.covers
