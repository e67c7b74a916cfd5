use Rattle.std.proofs.Common.{take}
use Rattle.finite_model.specs.Tabled.{HasPlaces}
use Rattle.finite_model.proofs.lookup.table_places.Given as goal

-- the elements of the first places
abbrev pub invariant-loop-place : goal.invariant-loop-place
invariant-loop-place l = HasPlaces (take l.place-index l.places) l.table
