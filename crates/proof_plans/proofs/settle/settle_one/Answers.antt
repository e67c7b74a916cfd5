use Rattle.std.proofs.Common.{List, sym, subst}
use Rattle.proof_plans.specs.declared.place.Place.{Place}
use Rattle.proof_plans.specs.Places.{PlacesHold}
use Rattle.proof_plans.proofs.Placed.{places_set}
use Rattle.proof_plans.proofs.settle.settle_one.Goals as goal

pub returns-else-step-len : goal.returns-else-step-len
returns-else-step-len c = λ task lent values fires indices holding is holds places.
    places_set task lent c.args.nodes.now values fires indices c.args.places.now.items c.in-At.step c.in-At.place places
    (c.in-At.ensures task lent values fires indices holding is holds
    (subst (λ (ps : List Place). PlacesHold task lent c.args.nodes.now values fires indices ps) (sym c.deref.ensures.value) places))
