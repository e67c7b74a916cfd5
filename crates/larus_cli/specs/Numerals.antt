-- Which number a word is.
use Rattle.std.specs.Prelude.{ℕ, zero, suc, if◌then◌else◌, Option, Some, None}
use Rattle.std.specs.Fmt.{decimal}
use Rattle.std.specs.Str.{bytes_eq}
use Rattle.text_core.specs.Names.{Text}

-- the number, at most this one, whose decimal digits the word is
unfoldable pub number_of : ℕ → Text → Option ℕ
number_of zero word = if bytes_eq word (decimal zero) then Some zero else None
number_of (suc most) word =
    if bytes_eq word (decimal (suc most)) then Some (suc most) else number_of most word
