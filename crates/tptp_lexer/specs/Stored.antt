-- What the struct `Tokens` holds, as a source and its tokens.
use Rattle.std.specs.Prelude.{◌<◌, ◌^◌, All, map, length}
use Rattle.tptp_lexer.specs.declared.token_list.Tokens.TheInside.{Inside}
use Rattle.tptp_lexer.specs.Spans.{token_of, IsWithin}
use Rattle.tptp_lexer.specs.Tokens.{AreTokens}
use Rattle.tptp_lexer.specs.Columns.{Lexed}

-- the source with the tokens of all its spans
abbrev pub lexed_of : Inside → Lexed
lexed_of t = record { source = t.source.now; tokens = map (token_of t.source.now) t.spans }

-- the tokens are those of the source, which has fewer than 2 ^ 32 bytes
pub record IsLexed (t : Inside) : Type 0 where
  pub within : All (IsWithin t.source.now) t.spans
  pub tokens : AreTokens t.source.now (lexed_of t).tokens
  pub short : length t.source.now < 2 ^ 32
