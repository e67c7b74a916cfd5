use Rattle.std.proofs.Common.{◌∙◌, sym}
use Rattle.proof_plans.proofs.Placed.{tie_over, leads_over, told_false}
use Rattle.proof_plans.proofs.place.after_over.Goals as goal

pub returns-in-Some : goal.returns-in-Some
returns-in-Some c = λ task lent values fires indices tie is holds places.
    let o = tie_over task lent c.args.nodes.now values fires indices c.args.step c.args.node tie is holds in
    let place = places.each c.args.step c.in-Some.place (sym c.item_at.ensures ∙ c.in-Some.is) in
    let up = leads_over task lent c.args.nodes.now values c.in-Some.place.level o.2.fire.branch o.0 c.if-place-ne0.true o.2.stands (place.level o.2.index o.2.fire o.2.index_is o.2.fire_is) in
    c.leads_to.ensures (told_false _ (sym c.eq.ensures ∙ c.if-eq.true)) task lent up.0 o.0 up.1 o.1 up.2
