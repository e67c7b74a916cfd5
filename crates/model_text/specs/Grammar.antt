-- The grammar of models: text ::= `model` `1` `.` sized
--   sized     ::= `size` number `.` places facts
--   places    ::= nothing | `place` word `is` number `.` places
--   facts     ::= nothing | `fact` word arguments `.` facts
--   arguments ::= nothing | `(` number others `)`
--   others    ::= nothing | `,` number others
use Rattle.std.specs.Prelude.{Bool, true, false, List, [], ◌∷◌}
use Rattle.token_grammar.specs.Grammar.{Grammar}
use Rattle.token_grammar.specs.Plan.{Plan}
use Rattle.token_grammar.specs.Computed.{computed_plan}
use Rattle.model_text.specs.declared.mark.Mark as Mark
use Rattle.model_text.specs.declared.mark.Mark.TheVariants as mark
use Rattle.model_text.specs.declared.part.ModelPart as ModelPart
use Rattle.model_text.specs.declared.part.ModelPart.TheVariants.{Taken, Row}
use Rattle.model_text.specs.declared.part.Taker as Taker
use Rattle.model_text.specs.declared.part.Taker.TheVariants as taker
use Rattle.model_text.specs.declared.part.Rule as Rule
use Rattle.model_text.specs.declared.part.Rule.TheVariants as rule

-- a word, which may be a keyword
abbrev pub is_word : Mark.Mark → Bool
is_word (mark.Model n) = true
is_word (mark.Size n) = true
is_word (mark.Place n) = true
is_word (mark.Is n) = true
is_word (mark.Fact n) = true
is_word (mark.Word n) = true
is_word _ = false

abbrev pub is_number : Mark.Mark → Bool
is_number mark.One = true
is_number (mark.Number n) = true
is_number _ = false

-- which token is taken
abbrev pub taker_takes : Taker.Taker → Mark.Mark → Bool
taker_takes taker.ModelWord (mark.Model n) = true
taker_takes taker.Version mark.One = true
taker_takes taker.SizeWord (mark.Size n) = true
taker_takes taker.Size m = is_number m
taker_takes taker.PlaceWord (mark.Place n) = true
taker_takes taker.Constant m = is_word m
taker_takes taker.IsWord (mark.Is n) = true
taker_takes taker.Element m = is_number m
taker_takes taker.FactWord (mark.Fact n) = true
taker_takes taker.Predicate m = is_word m
taker_takes taker.Argument m = is_number m
taker_takes taker.Open mark.Open = true
taker_takes taker.Close mark.Close = true
taker_takes taker.Comma mark.Comma = true
taker_takes taker.EndFact mark.Dot = true
taker_takes taker.Dot mark.Dot = true
taker_takes _ _ = false

-- a rule takes no token itself
abbrev pub takes : ModelPart.ModelPart → Mark.Mark → Bool
takes (Taken taker) m = taker_takes taker m
takes (Row rule) m = false

-- the rows of the rules
abbrev pub rows : Rule.Rule → List (List ModelPart.ModelPart)
rows rule.Text =
    (Taken taker.ModelWord ∷ Taken taker.Version ∷ Taken taker.Dot ∷ Row rule.Sized ∷ []) ∷ []
rows rule.Sized =
    (Taken taker.SizeWord ∷ Taken taker.Size ∷ Taken taker.Dot ∷ Row rule.Places ∷
    Row rule.Facts ∷ []) ∷ []
rows rule.Places =
    [] ∷ (Taken taker.PlaceWord ∷ Taken taker.Constant ∷ Taken taker.IsWord ∷
    Taken taker.Element ∷ Taken taker.Dot ∷ Row rule.Places ∷ []) ∷ []
rows rule.Facts =
    [] ∷ (Taken taker.FactWord ∷ Taken taker.Predicate ∷ Row rule.Arguments ∷
    Taken taker.EndFact ∷ Row rule.Facts ∷ []) ∷ []
rows rule.Arguments =
    [] ∷ (Taken taker.Open ∷ Taken taker.Argument ∷ Row rule.Others ∷ Taken taker.Close ∷ []) ∷ []
rows rule.Others = [] ∷ (Taken taker.Comma ∷ Taken taker.Argument ∷ Row rule.Others ∷ []) ∷ []

-- the productions
abbrev pub alternatives : ModelPart.ModelPart → List (List ModelPart.ModelPart)
alternatives (Taken taker) = []
alternatives (Row rule) = rows rule

-- the grammar of models
abbrev pub models : Grammar ModelPart.ModelPart Mark.Mark
models = record { takes = takes; alternatives = alternatives }

-- how the grammar is read
abbrev pub model_plan : Plan ModelPart.ModelPart Mark.Mark
model_plan = computed_plan models 5
