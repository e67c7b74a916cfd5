use Rattle.std.specs.List.{AllByRecursion}
use Rattle.std.proofs.Common.{◌≡◌, ◌<◌, take}
use Rattle.model_text.specs.Structures.{constants_of}
use Rattle.model_text.specs.declared.structure.Place.{Place}
use Rattle.model_search.proofs.read_off.read_places.Given as goal

-- the places of the first constants
abbrev pub invariant-loop-number : goal.invariant-loop-number
invariant-loop-number l = record {
  below : AllByRecursion (λ (p : Place). p.element < l.size) l.places;
  constants : constants_of l.places ≡ take l.number l.tables.constants;
}
