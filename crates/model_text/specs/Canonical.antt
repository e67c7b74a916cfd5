-- The canonical text of a structure: each sentence on a line of its own.
use Rattle.std.specs.Prelude.{ℕ, List, [], ◌∷◌, ◌++◌, codes}
use Rattle.std.specs.List.{flat_map}
use Rattle.std.specs.Fmt.{decimal}
use Rattle.text_core.specs.Names.{Text}
use Rattle.tptp_lexer.specs.Written.{word_text}
use Rattle.model_text.specs.declared.structure.Place.{Place}
use Rattle.model_text.specs.declared.structure.Fact.{Fact}
use Rattle.model_text.specs.Structures.{Finite}

-- the dot (46) and the line feed (10) at the end of a line
abbrev pub line_end : Text
line_end = 46 ∷ 10 ∷ []

-- the place of a constant
abbrev pub place_text : Place → Text
place_text place =
    codes "place " ++ word_text place.constant ++ codes " is " ++ decimal place.element ++ line_end

-- a further argument, behind a comma
abbrev pub further_text : ℕ → Text
further_text n = codes "," ++ decimal n

-- the arguments of a fact in brackets; nothing where there are none
abbrev pub arguments_text : List ℕ → Text
arguments_text [] = []
arguments_text (n ∷ ns) = codes "(" ++ decimal n ++ flat_map further_text ns ++ codes ")"

-- a fact
abbrev pub fact_text : Fact → Text
fact_text fact =
    codes "fact " ++ word_text fact.predicate ++ arguments_text fact.arguments ++ line_end

-- the text of a structure
abbrev pub model_text : Finite → Text
model_text m =
    codes "model 1" ++ line_end ++ codes "size " ++ decimal m.size ++ line_end ++
    flat_map place_text m.places ++ flat_map fact_text m.facts
