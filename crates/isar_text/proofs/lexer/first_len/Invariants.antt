use Rattle.std.proofs.Common.{◌≡◌, drop, map}
use Rattle.isar_text.specs.Fixed.{fixed_text}
use Rattle.isar_text.specs.Tokens as tokens
use Rattle.isar_text.proofs.lexer.first_len.Given as goal

-- the bytes begin with none of the signs before
abbrev pub invariant-loop-sign : goal.invariant-loop-sign
invariant-loop-sign l = tokens.sign_len (map fixed_text (drop l.sign-index l.signs)) l.bytes ≡ tokens.sign_len (map fixed_text l.signs) l.bytes
