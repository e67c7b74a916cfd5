use Rattle.std.proofs.Common.{refl, arith}
use Rattle.std.proofs.lemmas.Result.{on_ok_weaker}
use Rattle.model_search.proofs.Disjuncts.{instance_goes}
use Rattle.model_search.proofs.instance.add_instance.Goals as goal

pub returns : goal.returns
returns c =
    on_ok_weaker c.finish.result
    (instance_goes c.args.size c.args.form.now c.args.values.now.items c.as_slice-3.result.now c.as_slice.result.now c.as_slice-2.result.now
    c.as_slice-disjuncts.result.now c.args.sheet.now c.begin.new.self c.oppose_each.new.sheet c.add_options.new.sheet c.finish.new.self
    c.as_slice-3.ensures.value c.as_slice.ensures.value c.as_slice-2.ensures c.as_slice-disjuncts.ensures c.begin.ensures
    c.in_ok-oppose_each.ensures.goes c.in_ok-add_options.ensures.goes
    (let long = c.args.values.now.ok.0 in let same = c.len.ensures in let count = c.if-len-form.false in omega arith)
    (c.if-not-are_elements.ensures refl) c.in_ok-oppose_each.ensures.covers c.in_ok-add_options.ensures.covers) c.finish.ensures
