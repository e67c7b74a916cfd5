use Rattle.model_search.specs.Rules.{IsPlacedBelow}
use Rattle.model_search.specs.Sheets.{GoesIf}
use Rattle.model_search.proofs.places.add_places.Given as goal

abbrev pub invariant-loop-constant : goal.invariant-loop-constant
invariant-loop-constant l = GoesIf (IsPlacedBelow l.size) l.fn.sheet l.sheet
