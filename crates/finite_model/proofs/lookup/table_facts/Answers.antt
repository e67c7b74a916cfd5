use Rattle.finite_model.proofs.Tables.{facts_more}
use Rattle.finite_model.proofs.lookup.table_facts.Goals as goal

pub loop-fact-preserved : goal.loop-fact-preserved
loop-fact-preserved c =
    facts_more c.args.facts.now c.loop-fact.fact-index c.fact-item.result c.loop-fact.table.keys c.insert.new.self.keys
    (c.bytes.result, c.as_slice.result) c.loop-fact-test.true c.fact-item.is c.loop-fact.invariant c.bytes.ensures.value c.as_slice.ensures
    c.in_ok-insert.ensures.keys
