use Rattle.std.proofs.Common.{◌∙◌, sym}
use Rattle.proof_plans.proofs.Placed.{before_place, before_few, tie_before}
use Rattle.proof_plans.proofs.place.after_before.Goals as goal

pub returns-in-Some : goal.returns-in-Some
returns-in-Some c = λ task lent values fires indices tie is holds places.
    let b = tie_before task lent c.args.nodes.now values fires indices c.args.lower c.args.upper tie is holds in
    let low = places.each c.args.lower c.in-Some-Some.low (sym c.item_at.ensures ∙ c.in-Some-Some.is-0) in
    let high = places.each c.args.upper c.in-Some-Some.high (sym c.item_at-2.ensures ∙ c.in-Some-Some.is-1) in
    c.lowered.ensures task lent values fires indices high
    (before_place task lent c.args.nodes.now values fires indices c.args.lower c.args.upper c.in-Some-Some.low c.in-Some.rank c.in-Some.ensures.1 b low)
    (b.upper, b.later, b.upper_is, b.later_is)

pub returns-in-Some-2 : goal.returns-in-Some-2
returns-in-Some-2 c = λ task lent values fires indices tie is holds places.
    let b = tie_before task lent c.args.nodes.now values fires indices c.args.lower c.args.upper tie is holds in
    let low = places.each c.args.lower c.in-Some-Some.low (sym c.item_at.ensures ∙ c.in-Some-Some.is-0) in
    before_few task lent c.args.nodes.now values fires indices c.args.lower c.args.upper c.in-Some-Some.low c.in-Some.rank _ c.in-Some.ensures.1 c.if-rank-places.false places.many b low
