-- The tokens of a text: the longest at each offset, with only blanks and comments between them.
use Rattle.std.specs.Prelude.{◌≡◌, ℕ, ◌+◌, ◌==◌, Bool, true, not, ◌&&◌, ◌||◌, if◌then◌else◌, List, [], ◌∷◌, ◌++◌, length, Some, None, ◌⊎◌}
use Rattle.std.specs.List.{list_all}
use Rattle.text_core.specs.Names.{Text}
use Rattle.tptp_lexer.specs.declared.kind.Kind.{Kind}
use Rattle.tptp_lexer.specs.declared.kind.Kind.TheVariants.{Quoted}
use Rattle.tptp_lexer.specs.Kinds.{kind_of, inside, begins_with}

-- a token: its kind, the offset of its first byte, and its bytes
pub record Token : Type 0 where
  pub kind : Kind
  pub start : ℕ
  pub text : Text

-- space, tab, line feed and carriage return
abbrev pub is_blank : ℕ → Bool
is_blank b = b == 32 || b == 9 || b == 10 || b == 13

-- the bytes are none, or begin with a line feed
abbrev pub is_end_of_line : Text → Bool
is_end_of_line [] = true
is_end_of_line (b ∷ bs) = b == 10

-- `*/` (42, 47) is nowhere in the bytes
abbrev pub is_unclosed : Text → Bool
is_unclosed [] = true
is_unclosed (b ∷ bs) = not (b == 42 && begins_with 47 bs) && is_unclosed bs

-- `%` (37) and what follows, without a line feed, up to the end of the line, where the rest begins
abbrev pub IsLineComment : Text → Text → Type 0
IsLineComment text rest = (body : Text) × (text ≡ 37 ∷ body) ×
    (list_all (λ b. not (b == 10)) body ≡ true) × (is_end_of_line rest ≡ true)

-- `/*`, bytes in which no `*/` begins, and `*/`, which is the first one wholly behind the `/*`
abbrev pub IsBlockComment : Text → Type 0
IsBlockComment text =
    (body : Text) × (text ≡ 47 ∷ 42 ∷ body ++ 42 ∷ 47 ∷ []) × (is_unclosed (body ++ 42 ∷ []) ≡ true)

-- the text is a whole comment in front of the rest
abbrev pub IsComment : Text → Text → Type 0
IsComment text rest = IsLineComment text rest ⊎ IsBlockComment text

-- the text is a token of this kind in front of the rest, and with more of the rest it would be none
pub record IsLongest (kind : Kind) (text rest : Text) : Type 0 where
  pub token : kind_of text ≡ Some kind
  pub longest : (b : ℕ) (more after : Text) → rest ≡ b ∷ more ++ after
      → kind_of (text ++ b ∷ more) ≡ None

-- From an offset on the bytes are blanks, comments and these tokens, up to what is left, of which
-- `left` is true.
pub data Reads (left : ℕ → Text → Type 0) : ℕ → Text → List Token → Type 0 where
  stop : {at : ℕ} {bytes : Text} → left at bytes → Reads left at bytes []
  blank : {at b : ℕ} {rest : Text} {ts : List Token} → is_blank b ≡ true
      → Reads left (at + 1) rest ts → Reads left at (b ∷ rest) ts
  comment : {at : ℕ} {bytes : Text} {ts : List Token} (text rest : Text)
      → bytes ≡ text ++ rest → IsComment text rest → Reads left (at + length text) rest ts
      → Reads left at bytes ts
  token : {at : ℕ} {bytes : Text} {ts : List Token} (kind : Kind) (text rest : Text)
      → bytes ≡ text ++ rest → IsLongest kind text rest → Reads left (at + length text) rest ts
      → Reads left at bytes (record { kind = kind; start = at; text = text } ∷ ts)

-- nothing is left
abbrev pub IsEnd : ℕ → Text → Type 0
IsEnd at bytes = bytes ≡ []

-- the tokens of the bytes, all of them in order
abbrev pub AreTokens : Text → List Token → Type 0
AreTokens bytes ts = Reads IsEnd 0 bytes ts

-- the bytes between quotes, with the backslash (92) of each escape taken out
abbrev pub unescaped : Text → Text
unescaped [] = []
unescaped (b ∷ []) = b ∷ []
unescaped (b ∷ c ∷ cs) = if b == 92 then c ∷ unescaped cs else b ∷ unescaped (c ∷ cs)

-- what a text of a kind names: its bytes, or those between the quotes of a quoted word, unescaped
abbrev pub named : Kind → Text → Text
named Quoted text = unescaped (inside text)
named _ text = text

-- what a token names
abbrev pub name_of : Token → Text
name_of t = named t.kind t.text
