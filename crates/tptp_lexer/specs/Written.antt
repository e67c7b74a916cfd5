-- How names are written so that they are read as the same names, and lists of texts. Source: the
-- TPTP syntax.
use Rattle.std.specs.Prelude.{◌==◌, ◌||◌, List, [], ◌∷◌, ◌++◌, if◌then◌else◌}
use Rattle.text_core.specs.Names.{Text, is_lower, is_word_from}
use Rattle.tptp_lexer.specs.Kinds.{is_integer}

-- the quote (39) and the backslash (92) behind a backslash, other bytes as they are
abbrev pub escaped : Text → Text
escaped [] = []
escaped (b ∷ bs) = if b == 39 || b == 92 then 92 ∷ b ∷ escaped bs else b ∷ escaped bs

-- a name in single quotes
abbrev pub quoted_text : Text → Text
quoted_text name = 39 ∷ (escaped name ++ (39 ∷ []))

-- a predicate or a constant, in quotes where it is no lower word
abbrev pub word_text : Text → Text
word_text name = if is_word_from is_lower name then name else quoted_text name

-- the name of a formula, in quotes where it is neither a lower word nor an integer
abbrev pub name_text : Text → Text
name_text name = if is_word_from is_lower name || is_integer name then name else quoted_text name

-- texts with a separator between each two
abbrev pub joined_texts : Text → List Text → Text
joined_texts separator [] = []
joined_texts separator (x ∷ []) = x
joined_texts separator (x ∷ y ∷ ys) = x ++ separator ++ joined_texts separator (y ∷ ys)
