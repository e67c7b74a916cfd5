-- What is at the front of bytes, as the scanner answers it. No public contract speaks of these.
use Rattle.std.specs.Prelude.{ℕ, ◌==◌, [], ◌∷◌, if◌then◌else◌}
use Rattle.text_core.specs.Names.{Text}
use Rattle.isar_text.specs.declared.lexer.Piece.{Piece}
use Rattle.isar_text.specs.declared.lexer.Piece.TheVariants.{End, Blank, Found, Nothing}
use Rattle.isar_text.specs.Tokens.{is_blank, token_len}

-- a token of so many bytes, if any
abbrev pub found : ℕ → Piece
found n = if n == 0 then Nothing else Found n

-- what is at the front of the bytes
abbrev pub piece_at : Text → Piece
piece_at [] = End
piece_at (b ∷ bs) = if is_blank b then Blank else found (token_len (b ∷ bs))
