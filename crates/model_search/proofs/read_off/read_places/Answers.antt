use Rattle.std.proofs.Common.{◌<◌, [], ◌∷◌}
use Rattle.text_core.proofs.Laws.{each_append}
use Rattle.model_text.specs.declared.structure.Place.{Place}
use Rattle.model_search.proofs.ReadOff.{constants_more}
use Rattle.model_search.proofs.read_off.read_places.Goals as goal

pub loop-number-preserved : goal.loop-number-preserved
loop-number-preserved c =
    let place : Place = record { constant = c.in_ok-try_copy.field-0; element = c.place_of.result } in
    record {
      below = rw c.in_ok-push.ensures.ok (each_append (λ (p : Place). p.element < c.args.size) c.loop-number.places (place ∷ []) c.loop-number.invariant.below (c.place_of.ensures, tt));
      constants = rw c.in_ok-push.ensures.ok (constants_more c.loop-number.places place c.args.tables.now.constants c.loop-number.number c.constant_name.result.now
          c.constant_name.ensures c.in_ok-try_copy.ensures c.loop-number.invariant.constants);
    }
