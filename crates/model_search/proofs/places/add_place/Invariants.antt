use Rattle.model_search.specs.Rules.{IsPlacedBelow}
use Rattle.model_search.specs.Sheets.{GoesIf}
use Rattle.model_search.proofs.places.add_place.Given as goal

abbrev pub invariant-loop-other : goal.invariant-loop-other
invariant-loop-other l = GoesIf (IsPlacedBelow l.size) l.fn.sheet l.sheet

abbrev pub invariant-loop-one : goal.invariant-loop-one
invariant-loop-one l = GoesIf (IsPlacedBelow l.size) l.fn.sheet l.sheet
