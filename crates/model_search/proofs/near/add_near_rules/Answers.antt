use Rattle.std.proofs.Common.{arith}
use Rattle.model_search.proofs.Sheets.{item_at}
use Rattle.model_search.proofs.NearClauses.{rule_ruled}
use Rattle.model_search.proofs.near.add_near_rules.Goals as goal

pub loop-rule-preserved : goal.loop-rule-preserved
loop-rule-preserved c = λ count formed fair.
    c.in_ok-more.ensures c.args.rules.now (rule_ruled c.args.size c.args.rules.now c.loop-rule.rule-index c.rule-item.result
    (item_at c.args.rules.now c.loop-rule.rule-index c.rule-item.result (omega arith) c.rule-item.is))
    count formed (c.loop-rule.invariant count formed fair)
