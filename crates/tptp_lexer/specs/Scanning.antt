-- What the scanner's functions answer for the bytes at a front. No public contract speaks of these.
use Rattle.std.specs.Prelude.{ℕ, ◌+◌, ◌==◌, ◌<◌, Bool, not, ◌&&◌, ◌||◌, if◌then◌else◌, [], ◌∷◌, length, slice_index, nat_lt, Option, Some, None, option_map}
use Rattle.std.specs.List.{prefix_len}
use Rattle.text_core.specs.Names.{Text}
use Rattle.tptp_lexer.specs.declared.kind.Kind.TheVariants.{Lower, Upper, Quoted, Distinct, Integer, Dollar, OpenParenthesis, CloseParenthesis, OpenBracket, CloseBracket, Comma, Dot, Colon, Exclamation, Question, Tilde, Ampersand, Bar, Implies, Implied, Iff, Xor, Nor, Nand, Equal, NotEqual}
use Rattle.tptp_lexer.specs.declared.piece.Piece.{Piece}
use Rattle.tptp_lexer.specs.declared.piece.Piece.TheVariants.{End, Gap, Found, BadByte, OpenQuote, OpenComment, EmptyQuote}
use Rattle.tptp_lexer.specs.declared.quote.QuoteEnd.{QuoteEnd}
use Rattle.tptp_lexer.specs.declared.quote.QuoteEnd.TheVariants.{Closed, Stray, Open}
use Rattle.tptp_lexer.specs.Kinds.{is_lower, is_upper, is_digit, is_word, is_printable, is_escapable, begins_with}
use Rattle.tptp_lexer.specs.Tokens.{is_blank}

-- the byte is no line feed
abbrev pub is_not_feed : ℕ → Bool
is_not_feed b = not (b == 10)

-- how the bytes behind a quote end that begin so many bytes further on
abbrev pub further : ℕ → QuoteEnd → QuoteEnd
further n (Closed m) = Closed (n + m)
further n (Stray m) = Stray (n + m)
further n Open = Open

-- how the bytes behind a quote q end: by the quote or a stray byte at an offset, or with the text
abbrev pub quote_end : ℕ → Text → QuoteEnd
quote_end q [] = Open
quote_end q (b ∷ []) = if b == q then Closed 0 else if is_printable b then Open else Stray 0
quote_end q (b ∷ c ∷ cs) =
    if b == q then Closed 0
    else if b == 92 then (if is_escapable q c then further 2 (quote_end q cs) else Stray 0)
    else if is_printable b then further 1 (quote_end q (c ∷ cs))
    else Stray 0

-- the quote or the stray byte is among so many bytes
abbrev pub EndsWithin : QuoteEnd → ℕ → Type 0
EndsWithin (Closed n) len = n < len
EndsWithin (Stray n) len = n < len
EndsWithin Open len = Unit {0}

-- the bytes before the first `*/`
abbrev pub block_end : Text → Option ℕ
block_end [] = None
block_end (b ∷ bs) =
    if b == 42 && begins_with 47 bs then Some 0 else option_map (λ n. 1 + n) (block_end bs)

-- the length of a number of which this is the first digit
abbrev pub natural_len : ℕ → Text → ℕ
natural_len b bs = if b == 48 then 1 else 1 + prefix_len is_digit bs

-- behind a single quote, by the end of the bytes
abbrev pub quoted_piece : QuoteEnd → Piece
quoted_piece (Closed n) = if n == 0 then EmptyQuote else Found Quoted (n + 2)
quoted_piece (Stray n) = BadByte (1 + n)
quoted_piece Open = OpenQuote

-- behind a double quote, by the end of the bytes
abbrev pub distinct_piece : QuoteEnd → Piece
distinct_piece (Closed n) = Found Distinct (n + 2)
distinct_piece (Stray n) = BadByte (1 + n)
distinct_piece Open = OpenQuote

-- behind `/*`, by the offset of the first `*/`
abbrev pub block_piece : Option ℕ → Piece
block_piece (Some n) = Gap (n + 4)
block_piece None = OpenComment

-- behind `/`
unfoldable pub slash_from : Text → Piece
slash_from [] = BadByte 0
slash_from (b ∷ bs) = if b == 42 then block_piece (block_end bs) else BadByte 0

-- behind `$`
unfoldable pub dollar_from : Text → Piece
dollar_from [] = BadByte 0
dollar_from (b ∷ bs) = if is_lower b then Found Dollar (2 + prefix_len is_word bs) else BadByte 0

-- behind `+` or `-`
unfoldable pub signed_from : Text → Piece
signed_from [] = BadByte 0
signed_from (b ∷ bs) = if is_digit b then Found Integer (1 + natural_len b bs) else BadByte 0

-- behind `<`
unfoldable pub less_from : Text → Piece
less_from [] = BadByte 0
less_from (b ∷ bs) =
    if b == 61 then (if begins_with 62 bs then Found Iff 3 else Found Implied 2)
    else if b == 126 && begins_with 62 bs then Found Xor 3
    else BadByte 0

-- at a sign that may go on
unfoldable pub long_sign : ℕ → Text → Piece
long_sign b bs =
    if b == 33 then (if begins_with 61 bs then Found NotEqual 2 else Found Exclamation 1)
    else if b == 126 then
    (if begins_with 124 bs then Found Nor 2
    else if begins_with 38 bs then Found Nand 2
    else Found Tilde 1)
    else if b == 61 then (if begins_with 62 bs then Found Implies 2 else Found Equal 1)
    else if b == 60 then less_from bs
    else BadByte 0

-- at a sign
unfoldable pub sign_from : ℕ → Text → Piece
sign_from b bs =
    if b == 40 then Found OpenParenthesis 1
    else if b == 41 then Found CloseParenthesis 1
    else if b == 91 then Found OpenBracket 1
    else if b == 93 then Found CloseBracket 1
    else if b == 44 then Found Comma 1
    else if b == 46 then Found Dot 1
    else if b == 58 then Found Colon 1
    else if b == 63 then Found Question 1
    else if b == 38 then Found Ampersand 1
    else if b == 124 then Found Bar 1
    else long_sign b bs

-- at a byte that is no letter, digit or blank
unfoldable pub other_from : ℕ → Text → Piece
other_from b bs =
    if b == 39 then quoted_piece (quote_end 39 bs)
    else if b == 34 then distinct_piece (quote_end 34 bs)
    else if b == 37 then Gap (1 + prefix_len is_not_feed bs)
    else if b == 47 then slash_from bs
    else if b == 36 then dollar_from bs
    else if b == 43 || b == 45 then signed_from bs
    else sign_from b bs

-- what begins with a byte
unfoldable pub piece_from : ℕ → Text → Piece
piece_from b bs =
    if is_blank b then Gap 1
    else if is_lower b then Found Lower (1 + prefix_len is_word bs)
    else if is_upper b then Found Upper (1 + prefix_len is_word bs)
    else if is_digit b then Found Integer (natural_len b bs)
    else other_from b bs

-- what is at the front of the bytes
abbrev pub piece_at : Text → Piece
piece_at [] = End
piece_at (b ∷ bs) = piece_from b bs

-- the offset of the byte that the byte at an offset between quotes stands for
abbrev pub shown_at : Text → ℕ → ℕ
shown_at body at = if slice_index body at == 92 && nat_lt (at + 1) (length body) then at + 1 else at
