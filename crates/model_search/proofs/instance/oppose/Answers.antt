use Rattle.std.proofs.Common.{◌∙◌}
use Rattle.std.proofs.lemmas.Result.{on_ok_weaker}
use Rattle.model_search.proofs.Sheets.{goes_more}
use Rattle.model_search.proofs.Disjuncts.{ok_both}
use Rattle.model_search.proofs.Instances.{decided_true, opposed}
use Rattle.model_search.proofs.instance.oppose.Goals as goal

pub returns-in-Some-true-clause-covers : goal.returns-in-Some-true-clause-covers
returns-in-Some-true-clause-covers c = λ k.
    decided_true k c.args.values.now c.args.premise.now c.in_ok-fact.fact c.ground_atom.new.sheet
    (c.in-Some-true.ensures k ∙ c.in-Some-true.field-0-test) (c.in_ok-fact.ensures.means k)

pub returns-in-Some-false-clause-goes : goal.returns-in-Some-false-clause-goes
returns-in-Some-false-clause-goes c =
    goes_more c.args.sheet.now c.ground_atom.new.sheet c.settle.new.self c.in_ok-fact.ensures.goes c.settle.ensures.goes

pub returns-clause-goes : goal.returns-clause-goes
returns-clause-goes c =
    on_ok_weaker c.add_false.result (goes_more c.args.sheet.now c.ground_atom.new.sheet c.add_false.new.self c.in_ok-fact.ensures.goes)
    c.add_false.ensures.goes

pub returns-clause-covers : goal.returns-clause-covers
returns-clause-covers c =
    ok_both c.add_false.result
    (λ goes covers k. opposed k c.args.values.now c.args.premise.now c.in_ok-fact.fact c.ground_atom.new.sheet c.add_false.new.self goes
    (c.in_ok-fact.ensures.means k) (covers k)) c.add_false.ensures.goes c.add_false.ensures.covers
