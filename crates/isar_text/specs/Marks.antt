-- What the grammar looks at in each token of a text.
use Rattle.std.specs.Prelude.{ℕ, ◌+◌, ◌==◌, ◌&&◌, nat_le, List, [], ◌∷◌, Option, Some, None, if◌then◌else◌}
use Rattle.text_core.specs.Names.{Text, is_digit}
use Rattle.tptp_lexer.specs.Kinds.{is_natural}
use Rattle.proof_text.specs.Marks.{number_in}
use Rattle.isar_text.specs.declared.fixed.Fixed as Fixed
use Rattle.isar_text.specs.declared.mark.Mark as Mark
use Rattle.isar_text.specs.declared.mark.Mark.TheVariants as mark
use Rattle.isar_text.specs.declared.mark.Token.{Token as Seen}
use Rattle.isar_text.specs.Fixed.{fixed_of}
use Rattle.isar_text.specs.Names.{is_written}
use Rattle.isar_text.specs.Tokens.{Token}

-- the number that digits without a leading zero write, up to 2 ^ 32 - 1
abbrev pub number_of : Text → Option ℕ
number_of digits = if is_natural digits then number_in digits else None

-- the mark of a number, of the label of a line, and of the label of one of so many forms
abbrev pub number_mark : Option ℕ → Mark.Mark
number_mark None = mark.Other
number_mark (Some n) = mark.Number n

abbrev pub line_mark : Option ℕ → Mark.Mark
line_mark None = mark.Other
line_mark (Some n) = mark.Line n

abbrev pub form_mark : ℕ → Option ℕ → Mark.Mark
form_mark forms None = mark.Other
form_mark forms (Some n) = if nat_le 1 n && nat_le n forms then mark.Form n else mark.Other

-- the mark of a text that is not fixed: labels begin with A (65) and L (76)
abbrev pub other_mark : ℕ → Text → Mark.Mark
other_mark forms [] = mark.Other
other_mark forms (b ∷ bs) =
    if b == 65 then form_mark forms (number_of bs)
    else if b == 76 then line_mark (number_of bs)
    else if is_digit b then number_mark (number_of (b ∷ bs))
    else if is_written (b ∷ bs) then mark.Name else mark.Other

abbrev pub fixed_or : Option Fixed.Fixed → Mark.Mark → Mark.Mark
fixed_or (Some fixed) m = mark.Fixed fixed
fixed_or None m = m

-- the mark of a token with this text, where there are so many forms
abbrev pub mark_of : ℕ → Text → Mark.Mark
mark_of forms text = fixed_or (fixed_of text) (other_mark forms text)

-- the tokens with their marks, numbered from this number on
abbrev pub marked_from : ℕ → ℕ → List Token → List Seen
marked_from forms n [] = []
marked_from forms n (t ∷ ts) =
    record { mark = mark_of forms t.text; number = n } ∷ marked_from forms (n + 1) ts

-- the tokens of a text as the grammar sees them
abbrev pub marked : ℕ → List Token → List Seen
marked forms ts = marked_from forms 0 ts
