use Rattle.std.proofs.lemmas.Map.Text.{hash_map_updates_str}
use Rattle.finite_model.specs.Tabled.{place_found}
use Rattle.finite_model.proofs.Tables.{place_noted}
use Rattle.finite_model.proofs.lookup.table_place.Goals as goal

pub returns-in_ok-insert-in-None : goal.returns-in_ok-insert-in-None
returns-in_ok-insert-in-None c = λ constant.
    place_noted (place_found c.args.table.now) (place_found c.insert.new.self) c.args.place.now c.bytes-constant.result.now constant
    c.bytes-constant.ensures.value c.in-None.ensures.value
    (hash_map_updates_str c.bytes-constant.result.now c.args.table.now c.insert.new.self _ c.in_ok-insert-in-None.ensures.updates constant)
