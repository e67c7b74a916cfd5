use Rattle.std.proofs.lemmas.Result.{on_ok_weaker}
use Rattle.model_search.proofs.Sheets.{goes_more}
use Rattle.model_search.proofs.Disjuncts.{ok_both, option_covers}
use Rattle.model_search.proofs.options.add_option.Goals as goal

pub returns-in-Some-clause-goes : goal.returns-in-Some-clause-goes
returns-in-Some-clause-goes c =
    on_ok_weaker c.add_each.result (goes_more c.args.sheet.now c.atoms_left.new.sheet c.add_each.new.sheet c.in_ok-grounds.ensures.goes)
    c.add_each.ensures.goes

pub returns-in-Some-clause-covers : goal.returns-in-Some-clause-covers
returns-in-Some-clause-covers c =
    let left = rw c.in-Some.is at c.in_ok-grounds.ensures.some in
    ok_both c.add_each.result
    (λ goes covers k. option_covers k c.in-Some.grounds.items c.atoms_left.new.sheet c.add_each.new.sheet goes (left k) (covers k))
    c.add_each.ensures.goes c.add_each.ensures.covers
