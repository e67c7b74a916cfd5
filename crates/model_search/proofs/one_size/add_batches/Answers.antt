use Rattle.model_search.proofs.Sheets.{item_at}
use Rattle.model_search.proofs.Rounds.{suits_form}
use Rattle.model_search.proofs.one_size.add_batches.Goals as goal

pub loop-batch-preserved : goal.loop-batch-preserved
loop-batch-preserved c = λ k suits suited.
    let found = c.in-Some.ensures.lookup in
    c.in_ok-add_instances.ensures k
    (suits_form c.args.size c.args.rules.now c.batch-item.result.rule c.in-Some.rule.now k
    (item_at c.args.rules.now c.batch-item.result.rule c.in-Some.rule.now found.3.0 found.1) suits)
    (c.loop-batch.invariant k suits suited)
