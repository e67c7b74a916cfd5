use Rattle.model_search.proofs.Sheets.{goes_more}
use Rattle.model_search.proofs.Disjuncts.{disjuncts_next}
use Rattle.model_search.proofs.options.add_disjuncts.Goals as goal

pub loop-disjunct-preserved : goal.loop-disjunct-preserved
loop-disjunct-preserved c = record {
  goes = goes_more c.args.sheet.now c.loop-disjunct.sheet c.add_option.new.sheet c.loop-disjunct.invariant.goes c.in_ok-add_option.ensures.goes;
  covers = λ k. disjuncts_next k c.args.values.now c.args.disjuncts.now c.loop-disjunct.disjunct-index c.disjunct-item.result c.as_slice.result.now
      c.loop-disjunct.sheet c.add_option.new.sheet c.loop-disjunct-test.true c.disjunct-item.is c.as_slice.ensures c.in_ok-add_option.ensures.goes
      (c.loop-disjunct.invariant.covers k) (c.in_ok-add_option.ensures.covers k);
}
