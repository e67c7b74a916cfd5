-- The first of some tokens.
use Rattle.std.specs.Prelude.{List, [], ◌∷◌, Option, Some, None}
use Rattle.tptp_lexer.specs.Tokens.{Token}

-- the first of the tokens, with those behind it
abbrev pub first_of : List Token → Option (Token × List Token)
first_of [] = None
first_of (t ∷ ts) = Some (t, ts)
