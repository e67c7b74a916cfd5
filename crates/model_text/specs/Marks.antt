-- What the grammar looks at in each token of the text of a model.
use Rattle.std.specs.Prelude.{ℕ, ◌==◌, List, map, Option, Some, None, codes, if◌then◌else◌}
use Rattle.std.specs.Str.{bytes_eq}
use Rattle.text_core.specs.Names.{Text}
use Rattle.tptp_lexer.specs.declared.kind.Kind.{Kind}
use Rattle.tptp_lexer.specs.declared.kind.Kind.TheVariants as kind
use Rattle.tptp_lexer.specs.Tokens.{Token}
use Rattle.model_text.specs.Numbers.{is_signed, number_in}
use Rattle.model_text.specs.Words.{names_in, number_among}
use Rattle.model_text.specs.declared.mark.Mark as Mark
use Rattle.model_text.specs.declared.mark.Mark.TheVariants.{Model, Size, Place, Is, Fact, Word, One, Number, Open, Close, Comma, Dot, Other}

-- a lower word whose name has this number
abbrev pub lower_mark : ℕ → Text → Mark.Mark
lower_mark word text =
    if bytes_eq text (codes "model") then Model word else
    (if bytes_eq text (codes "size") then Size word else
    (if bytes_eq text (codes "place") then Place word else
    (if bytes_eq text (codes "is") then Is word else
    (if bytes_eq text (codes "fact") then Fact word else Word word))))

-- a number
abbrev pub number_mark : ℕ → Mark.Mark
number_mark n = if n == 1 then One else Number n

-- the same, of a number that fits, or of one that does not
abbrev pub fitting_mark : Option ℕ → Mark.Mark
fitting_mark None = Other
fitting_mark (Some n) = number_mark n

-- an integer; one with a sign is no number, nor is one that does not fit
abbrev pub integer_mark : Text → Mark.Mark
integer_mark text = if is_signed text then Other else fitting_mark (number_in text)

-- a token of this kind and with this text, whose name has this number if it is a word
abbrev pub mark_of : ℕ → Kind → Text → Mark.Mark
mark_of word kind.Lower text = lower_mark word text
mark_of word kind.Quoted text = Word word
mark_of word kind.Integer text = integer_mark text
mark_of word kind.OpenParenthesis text = Open
mark_of word kind.CloseParenthesis text = Close
mark_of word kind.Comma text = Comma
mark_of word kind.Dot text = Dot
mark_of word _ text = Other

-- a token among names
abbrev pub mark_among : List Text → Token → Mark.Mark
mark_among names t = mark_of (number_among names t) t.kind t.text

-- the tokens of a text as the grammar sees them
abbrev pub marked : List Token → List Mark.Mark
marked ts = map (mark_among (names_in ts)) ts
