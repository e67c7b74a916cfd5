use Rattle.std.specs.List.{AllByRecursion}
use Rattle.std.proofs.Common.{◌≡◌, ◌++◌, drop, flat_map}
use Rattle.model_text.specs.Canonical.{place_text}
use Rattle.model_text.specs.Named.{PlaceIsNamed}
use Rattle.model_text.proofs.writer.put_places.Given as goal

-- what is appended, and what the other places add
abbrev pub invariant-loop-place : goal.invariant-loop-place
invariant-loop-place l = record {
  text : l.out ++ flat_map place_text (drop l.place-index l.places) ≡ l.fn.out ++ flat_map place_text l.places;
  named : AllByRecursion PlaceIsNamed (drop l.place-index l.places) → AllByRecursion PlaceIsNamed l.places;
}
