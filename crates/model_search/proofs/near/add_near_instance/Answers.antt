use Rattle.std.proofs.lemmas.Result.{on_ok_weaker}
use Rattle.model_search.proofs.NearClauses.{near_instance_goes}
use Rattle.model_search.proofs.near.add_near_instance.Goals as goal

pub returns : goal.returns
returns c =
    on_ok_weaker c.finish.result
    (near_instance_goes c.args.size c.args.near c.args.form.now c.args.values.now.items c.as_slice.result.now c.as_slice-premises.result.now
    c.as_slice-disjuncts.result.now c.args.sheet.now c.begin.new.self c.oppose_each.new.sheet c.add_near_options.new.sheet c.finish.new.self
    c.as_slice.ensures.value c.as_slice-premises.ensures c.as_slice-disjuncts.ensures c.begin.ensures c.in_ok-oppose_each.ensures.goes
    c.in_ok-add_near_options.ensures.goes c.in_ok-oppose_each.ensures.covers c.in_ok-add_near_options.ensures.covers) c.finish.ensures
