-- What contracts see of a source: its tokens, and their kinds, offsets, texts and names in order.
use Rattle.std.specs.Prelude.{ℕ, ◌+◌, Bool, true, false, List, length, map}
use Rattle.text_core.specs.Names.{Text}
use Rattle.tptp_lexer.specs.declared.kind.Kind.{Kind}
use Rattle.tptp_lexer.specs.declared.kind.Kind.TheVariants.{Lower, Upper, Quoted, Integer}
use Rattle.tptp_lexer.specs.Tokens.{Token, name_of}

-- a source and its tokens
pub record Lexed : Type 0 where
  pub source : Text
  pub tokens : List Token

-- the kinds of tokens, in order
abbrev pub kinds_of : List Token → List Kind
kinds_of ts = map (λ (t : Token). t.kind) ts

-- the offsets of their first bytes
abbrev pub starts_of : List Token → List ℕ
starts_of ts = map (λ (t : Token). t.start) ts

-- the offset behind a token's last byte
abbrev pub end_of : Token → ℕ
end_of t = t.start + length t.text

-- the offsets behind their last bytes
abbrev pub ends_of : List Token → List ℕ
ends_of ts = map end_of ts

-- their texts
abbrev pub texts_of : List Token → List Text
texts_of ts = map (λ (t : Token). t.text) ts

-- what they name
abbrev pub names_of : List Token → List Text
names_of ts = map name_of ts

-- a token of this kind names something
abbrev pub is_name : Kind → Bool
is_name Lower = true
is_name Upper = true
is_name Quoted = true
is_name Integer = true
is_name _ = false
