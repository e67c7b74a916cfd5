use Rattle.model_search.proofs.Sheets.{item_at}
use Rattle.model_search.proofs.Rounds.{suits_form}
use Rattle.model_search.proofs.one_size.add_firsts.Goals as goal

pub loop-rule-preserved : goal.loop-rule-preserved
loop-rule-preserved c = λ k suits suited.
    c.in_ok-add_first.ensures k
    (suits_form c.args.size c.args.rules.now c.loop-rule.rule-index c.rule-item.result k
    (item_at c.args.rules.now c.loop-rule.rule-index c.rule-item.result c.loop-rule-test.true c.rule-item.is) suits)
    (c.loop-rule.invariant k suits suited)
