-- Constants and predicates whose names have one or more bytes of printable ASCII.
use Rattle.text_core.specs.NameTexts.{IsNameText}
use Rattle.model_text.specs.declared.structure.Place.{Place}
use Rattle.model_text.specs.declared.structure.Fact.{Fact}

abbrev pub PlaceIsNamed : Place → Type 0
PlaceIsNamed place = IsNameText place.constant

abbrev pub FactIsNamed : Fact → Type 0
FactIsNamed fact = IsNameText fact.predicate
