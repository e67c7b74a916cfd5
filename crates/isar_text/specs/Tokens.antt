-- The tokens of a text behind its head, the longest first, with only spaces and line feeds between
-- them; and the first byte that begins none.
use Rattle.std.specs.Prelude.{◌≡◌, ℕ, ◌+◌, ◌<◌, ◌==◌, Bool, true, false, ◌||◌, List, [], ◌∷◌, ◌++◌, length, take, Option, Some, None, codes, if◌then◌else◌}
use Rattle.std.specs.List.{prefix_len}
use Rattle.std.specs.Str.{bytes_eq}
use Rattle.text_core.specs.Names.{Text, is_lower, is_upper, is_digit, is_word}

-- a token: the offset of its first byte, and its bytes
pub record Token : Type 0 where
  pub start : ℕ
  pub text : Text

-- space and line feed
abbrev pub is_blank : ℕ → Bool
is_blank b = b == 32 || b == 10

-- the signs, each in front of those with which it begins
abbrev pub signs : List Text
signs =
    codes "?thesis" ∷ (34 ∷ []) ∷ codes ":" ∷ codes "(*" ∷ codes "*)" ∷ codes "(" ∷ codes ")" ∷
    codes "[" ∷ codes "]" ∷ codes "," ∷ codes "&" ∷ codes "|" ∷ codes "~=" ∷ codes "~" ∷
    codes "=" ∷ []

-- the bytes begin with this text
abbrev pub is_front : Text → Text → Bool
is_front text bytes = bytes_eq (take (length text) bytes) text

-- the length of the first sign of these with which the bytes begin; 0 where there is none
abbrev pub sign_len : List Text → Text → ℕ
sign_len [] bytes = 0
sign_len (sign ∷ more) bytes =
    if is_front sign bytes then length sign else sign_len more bytes

-- the length of the token at the front of bytes: a letter and further letters, digits and low
-- lines; digits; or a sign. 0 where none begins there
unfoldable pub token_len : Text → ℕ
token_len [] = 0
token_len (b ∷ bs) =
    if is_lower b || is_upper b then 1 + prefix_len is_word bs
    else if is_digit b then 1 + prefix_len is_digit bs
    else sign_len signs (b ∷ bs)

-- the text is the token at the front of the bytes
pub record IsFirst (text rest : Text) : Type 0 where
  pub some : 0 < length text
  pub len : token_len (text ++ rest) ≡ length text

-- from an offset on the bytes are blanks and these tokens, up to what is left, of which `left` is
-- true
pub data Reads (left : ℕ → Text → Type 0) : ℕ → Text → List Token → Type 0 where
  stop : {at : ℕ} {bytes : Text} → left at bytes → Reads left at bytes []
  blank : {at b : ℕ} {rest : Text} {ts : List Token} → is_blank b ≡ true →
      Reads left (at + 1) rest ts → Reads left at (b ∷ rest) ts
  token : {at : ℕ} {bytes : Text} {ts : List Token} (text rest : Text) → bytes ≡ text ++ rest →
      IsFirst text rest → Reads left (at + length text) rest ts →
      Reads left at bytes (record { start = at; text = text } ∷ ts)

-- the first byte is no blank, and no token begins with it
abbrev pub BeginsNothing : Text → Type 0
BeginsNothing [] = ⊥
BeginsNothing (b ∷ bs) = (is_blank b ≡ false) × (token_len (b ∷ bs) ≡ 0)

-- how the reading ends: with the bytes, or at this offset, where no token begins
abbrev pub EndsBy : Option ℕ → ℕ → Text → Type 0
EndsBy None at bytes = bytes ≡ []
EndsBy (Some offset) at bytes = BeginsNothing bytes × (offset ≡ at)

-- the tokens of the bytes, which begin at this offset, up to their end or to the first byte that
-- begins none
abbrev pub AreTokens : ℕ → Text → List Token → Option ℕ → Type 0
AreTokens at bytes ts bad = Reads (EndsBy bad) at bytes ts
