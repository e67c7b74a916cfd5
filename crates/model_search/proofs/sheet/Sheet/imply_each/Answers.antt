use Rattle.model_search.proofs.Sheets.{item_at, grows_more, implied_next}
use Rattle.model_search.proofs.sheet.Sheet.imply_each.Goals as goal

pub loop-fact-preserved : goal.loop-fact-preserved
loop-fact-preserved c =
    let fact = c.fact-item.result in
    let at = item_at c.args.grounds.now c.loop-fact.fact-index fact c.loop-fact-test.true c.fact-item.is in
    record {
      grows = grows_more _ _ _ c.loop-fact.invariant.grows c.in_ok-imply.ensures.grows;
      suited = implied_next c.args.self.now c.loop-fact.self c.imply.new.self c.args.variable c.args.grounds.now c.loop-fact.fact-index fact at
          c.loop-fact.invariant.grows c.loop-fact.invariant.suited (rw c.in_ok-try_copy.ensures at c.in_ok-imply.ensures.suited);
    }
