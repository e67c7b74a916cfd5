use Rattle.model_search.proofs.Sheets.{goes_more}
use Rattle.model_search.proofs.Instances.{premises_next, premises_all}
use Rattle.model_search.proofs.instance.oppose_each.Goals as goal

pub loop-premise-preserved : goal.loop-premise-preserved
loop-premise-preserved c = record {
  goes = goes_more c.args.sheet.now c.loop-premise.sheet c.oppose.new.sheet c.loop-premise.invariant.goes c.in_ok-oppose.ensures.goes;
  covers = λ k. premises_next k c.args.values.now c.args.premises.now c.loop-premise.premise-index c.premise-item.result c.loop-premise.sheet
      c.oppose.new.sheet c.loop-premise-test.true c.premise-item.is c.in_ok-oppose.ensures.goes (c.loop-premise.invariant.covers k)
      (c.in_ok-oppose.ensures.covers k);
}

pub returns-clause-covers : goal.returns-clause-covers
returns-clause-covers c = λ k.
    premises_all k c.args.values.now c.args.premises.now c.loop-premise.premise-index c.loop-premise.sheet c.loop-premise-test.false
    (c.loop-premise.invariant.covers k)
