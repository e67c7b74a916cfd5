use Rattle.finite_model.proofs.Tables.{places_more}
use Rattle.finite_model.proofs.lookup.table_places.Goals as goal

pub loop-place-preserved : goal.loop-place-preserved
loop-place-preserved c =
    places_more c.args.places.now c.loop-place.place-index c.place-item.result c.loop-place.table c.table_place.new.table
    c.loop-place-test.true c.place-item.is c.loop-place.invariant c.in_ok-table_place.ensures
