-- The tokens that spans of a source are.
use Rattle.std.specs.Prelude.{◌≤◌, length, slice_range}
use Rattle.text_core.specs.Names.{Text}
use Rattle.isar_text.specs.declared.token_list.Span.{Span}
use Rattle.isar_text.specs.Tokens.{Token}

-- the token that a span of the source is
abbrev pub token_of : Text → Span → Token
token_of source span =
    record { start = span.start; text = slice_range source span.start span.end }

-- the span is a part of the source
abbrev pub IsWithin : Text → Span → Type 0
IsWithin source span = (span.start ≤ span.end) × (span.end ≤ length source)
