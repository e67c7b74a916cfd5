-- What the grammar looks at in each token of a proof text.
use Rattle.std.specs.Prelude.{ℕ, ◌+◌, ◌*◌, ◌-◌, ◌==◌, ◌&&◌, ◌||◌, nat_le, Bool, false, List, [], ◌∷◌, Option, Some, None, if◌then◌else◌}
use Rattle.text_core.specs.Names.{Text}
use Rattle.tptp_lexer.specs.declared.kind.Kind.{Kind}
use Rattle.tptp_lexer.specs.declared.kind.Kind.TheVariants as kind
use Rattle.tptp_lexer.specs.Tokens.{Token as LexToken}
use Rattle.proof_text.specs.declared.fixed.Fixed as Fixed
use Rattle.proof_text.specs.declared.fixed.Fixed.TheVariants.{OpenParenthesis, CloseParenthesis, OpenBracket, CloseBracket, Comma, Dot, Colon, Tilde, Ampersand, Bar, Equal, NotEqual}
use Rattle.proof_text.specs.declared.limits.TheConstants.{MOST_WITHIN}
use Rattle.proof_text.specs.declared.mark.Integer as Integer
use Rattle.proof_text.specs.declared.mark.Integer.TheVariants.{One, Two, Few, Number, NoNumber}
use Rattle.proof_text.specs.declared.mark.Mark as Mark
use Rattle.proof_text.specs.declared.mark.Mark.TheVariants as mark
use Rattle.proof_text.specs.declared.mark.Token.{Token}
use Rattle.proof_text.specs.Fixed.{keyword_of, dollar_of}

-- the greatest number that a proof text may have, 2 ^ 32 - 1
abbrev pub most_number : ℕ
most_number = 4294967295

-- the number that digits write when they follow those of n; 48 is the digit 0
abbrev pub number_after : ℕ → Text → ℕ
number_after n [] = n
number_after n (b ∷ bs) = number_after (n * 10 + (b - 48)) bs

-- what the grammar looks at in a number
abbrev pub number_mark : ℕ → Integer.Integer
number_mark n =
    if n == 1 then One else
    (if n == 2 then Two else
    (if nat_le 1 n && nat_le n MOST_WITHIN then Few n else Number n))

-- the same, of a number that fits, or of one that does not
abbrev pub fitting_mark : Option ℕ → Integer.Integer
fitting_mark None = NoNumber
fitting_mark (Some n) = number_mark n

-- the number that digits write, where it may stand in a proof text
abbrev pub number_in : Text → Option ℕ
number_in text =
    if nat_le (number_after 0 text) most_number then Some (number_after 0 text) else None

-- a number and one more digit, where it may stand in a proof text
abbrev pub number_next : ℕ → ℕ → Option ℕ
number_next n b =
    if nat_le (n * 10 + (b - 48)) most_number then Some (n * 10 + (b - 48)) else None

-- an integer with a sign, a plus (43) or a minus (45), is no number
abbrev pub is_signed : Text → Bool
is_signed [] = false
is_signed (b ∷ bs) = b == 43 || b == 45

-- what the grammar looks at in an integer
abbrev pub integer_mark : Text → Integer.Integer
integer_mark text = if is_signed text then NoNumber else fitting_mark (number_in text)

-- a token with its own text, or another one
abbrev pub fixed_or : Mark.Mark → Option Fixed.Fixed → Mark.Mark
fixed_or m (Some fixed) = mark.Fixed fixed
fixed_or m None = m

-- what the grammar looks at in a token of this kind and with this text
abbrev pub mark_of : Kind → Text → Mark.Mark
mark_of kind.Lower text = fixed_or mark.Word (keyword_of text)
mark_of kind.Quoted text = mark.Word
mark_of kind.Upper text = mark.Upper
mark_of kind.Integer text = mark.Integer (integer_mark text)
mark_of kind.Dollar text = fixed_or mark.Other (dollar_of text)
mark_of kind.OpenParenthesis text = mark.Fixed OpenParenthesis
mark_of kind.CloseParenthesis text = mark.Fixed CloseParenthesis
mark_of kind.OpenBracket text = mark.Fixed OpenBracket
mark_of kind.CloseBracket text = mark.Fixed CloseBracket
mark_of kind.Comma text = mark.Fixed Comma
mark_of kind.Dot text = mark.Fixed Dot
mark_of kind.Colon text = mark.Fixed Colon
mark_of kind.Tilde text = mark.Fixed Tilde
mark_of kind.Ampersand text = mark.Fixed Ampersand
mark_of kind.Bar text = mark.Fixed Bar
mark_of kind.Equal text = mark.Fixed Equal
mark_of kind.NotEqual text = mark.Fixed NotEqual
mark_of _ text = mark.Other

-- the tokens with their marks, numbered from this number on
abbrev pub marked_from : ℕ → List LexToken → List Token
marked_from n [] = []
marked_from n (t ∷ ts) =
    record { mark = mark_of t.kind t.text; number = n } ∷ marked_from (n + 1) ts

-- the tokens of a text as the grammar sees them
abbrev pub marked : List LexToken → List Token
marked ts = marked_from 0 ts
