-- The token table: which texts are tokens, and of which kind. After the TPTP syntax.
use Rattle.std.specs.Prelude.{ℕ, ◌-◌, ◌==◌, Bool, true, false, not, ◌&&◌, ◌||◌, if◌then◌else◌, List, [], ◌∷◌, ◌++◌, length, take, drop, Option, Some, None, codes, bytes_eq}
use Rattle.std.specs.List.{list_all}
use Rattle.text_core.specs.Names.{Text}
pub use Rattle.text_core.specs.Names.{is_lower, is_upper, is_digit, is_word, is_word_from, is_printable, begins_with}
use Rattle.tptp_lexer.specs.declared.kind.Kind.{Kind}
use Rattle.tptp_lexer.specs.declared.kind.Kind.TheVariants.{Lower, Upper, Quoted, Distinct, Integer, Dollar, OpenParenthesis, CloseParenthesis, OpenBracket, CloseBracket, Comma, Dot, Colon, Exclamation, Question, Tilde, Ampersand, Bar, Implies, Implied, Iff, Xor, Nor, Nand, Equal, NotEqual}

-- a byte that stands for itself between quotes q: printable, and neither q nor the backslash (92)
abbrev pub is_plain : ℕ → ℕ → Bool
is_plain q b = is_printable b && not (b == q) && not (b == 92)

-- what may follow a backslash between quotes q
abbrev pub is_escapable : ℕ → ℕ → Bool
is_escapable q b = b == 92 || b == q

-- the bytes may be between quotes q: each is plain, or a backslash and what may follow it
abbrev pub is_body : ℕ → Text → Bool
is_body q [] = true
is_body q (b ∷ []) = is_plain q b
is_body q (b ∷ c ∷ cs) =
    if b == 92 then is_escapable q c && is_body q cs else is_plain q b && is_body q (c ∷ cs)

-- a text without its first and its last byte
abbrev pub inside : Text → Text
inside text = take (length text - 2) (drop 1 text)

-- the quote q, bytes that may be between such quotes, and the quote again
abbrev pub is_quoted : ℕ → Text → Bool
is_quoted q text = bytes_eq text (q ∷ inside text ++ q ∷ []) && is_body q (inside text)

-- a quoted word is in single quotes (39), with one or more bytes between them
abbrev pub is_quoted_word : Text → Bool
is_quoted_word text = is_quoted 39 text && not (bytes_eq (inside text) [])

-- 0 (48), or a digit 1 to 9 and further digits
abbrev pub is_natural : Text → Bool
is_natural [] = false
is_natural (b ∷ bs) = if b == 48 then bytes_eq bs [] else is_digit b && list_all is_digit bs

-- a natural number, or one behind a plus (43) or a minus (45)
abbrev pub is_integer : Text → Bool
is_integer [] = false
is_integer (b ∷ bs) = if b == 43 || b == 45 then is_natural bs else is_natural (b ∷ bs)

-- the dollar (36), and a word that begins with a to z
abbrev pub is_dollar_word : Text → Bool
is_dollar_word [] = false
is_dollar_word (b ∷ bs) = b == 36 && is_word_from is_lower bs

-- the text is this sign
abbrev pub is_sign : Text → Text → Bool
is_sign sign text = bytes_eq text sign

-- each kind of token, with the test that tells its texts; each sign is a kind of its own
abbrev pub kinds : List (Kind × (Text → Bool))
kinds =
    (Lower, is_word_from is_lower) ∷ (Upper, is_word_from is_upper) ∷
    (Quoted, is_quoted_word) ∷ (Distinct, is_quoted 34) ∷
    (Integer, is_integer) ∷ (Dollar, is_dollar_word) ∷
    (OpenParenthesis, is_sign (codes "(")) ∷ (CloseParenthesis, is_sign (codes ")")) ∷
    (OpenBracket, is_sign (codes "[")) ∷ (CloseBracket, is_sign (codes "]")) ∷
    (Comma, is_sign (codes ",")) ∷ (Dot, is_sign (codes ".")) ∷ (Colon, is_sign (codes ":")) ∷
    (Exclamation, is_sign (codes "!")) ∷ (Question, is_sign (codes "?")) ∷
    (Tilde, is_sign (codes "~")) ∷ (Ampersand, is_sign (codes "&")) ∷ (Bar, is_sign (codes "|")) ∷
    (Implies, is_sign (codes "=>")) ∷ (Implied, is_sign (codes "<=")) ∷
    (Iff, is_sign (codes "<=>")) ∷ (Xor, is_sign (codes "<~>")) ∷
    (Nor, is_sign (codes "~|")) ∷ (Nand, is_sign (codes "~&")) ∷
    (Equal, is_sign (codes "=")) ∷ (NotEqual, is_sign (codes "!=")) ∷ []

-- the kind whose test a text passes
abbrev pub kind_among : List (Kind × (Text → Bool)) → Text → Option Kind
kind_among [] text = None
kind_among (k ∷ ks) text = if k.1 text then Some k.0 else kind_among ks text

-- the kind of a whole text; None where the text is no token
unfoldable pub kind_of : Text → Option Kind
kind_of text = kind_among kinds text
