-- How tokens follow one another in their source.
use Rattle.std.specs.Prelude.{◌≡◌, ℕ, ◌≤◌, List, [], ◌∷◌, slice_range}
use Rattle.text_core.specs.Names.{Text}
use Rattle.tptp_lexer.specs.Tokens.{Token}
use Rattle.tptp_lexer.specs.Columns.{end_of}

-- from an offset on each token begins where the one before it ends or behind that, and its text is
-- that part of the bytes
abbrev pub AreInOrder : ℕ → Text → List Token → Type 0
AreInOrder from bytes [] = Unit {0}
AreInOrder from bytes (t ∷ ts) =
    (from ≤ t.start) × (t.text ≡ slice_range bytes t.start (end_of t)) ×
    AreInOrder (end_of t) bytes ts
