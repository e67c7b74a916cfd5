-- The cases of a line.
use Rattle.std.specs.Prelude.{ℕ, zero, suc, List, ◌++◌, map, length, slice_get, Option, Some, None, option_and_then}
use Rattle.logic_core.specs.declared.form.Atom.{Atom}
use Rattle.logic_core.specs.declared.form.Form.{Form}
use Rattle.vernacular_tree.specs.declared.context.Line as Line
use Rattle.vernacular_tree.specs.declared.context.Line.TheVariants.{Facts, Cases, Falsum}
use Rattle.coherent_form.specs.Tasks.{CitedTask}
use Rattle.kept_context.specs.Kept.{without_facts, line_seen}
use Rattle.kept_context.specs.declared.kept.OwnLine as OwnLine
use Rattle.kept_context.specs.declared.kept.OwnLine.TheVariants as own

-- how many there are, in a line that has some
abbrev pub case_count : Line.Line → Option ℕ
case_count (Cases lists) = Some (length lists)
case_count (Facts facts) = None
case_count Falsum = None

-- the facts of one
abbrev pub case_of : Line.Line → ℕ → Option (List Atom)
case_of (Cases lists) case = slice_get lists case
case_of (Facts facts) case = None
case_of Falsum case = None

-- the lines of the lent context and those behind them, as they are seen
abbrev pub lines_seen : CitedTask → List Line.Line → List ℕ → List OwnLine.OwnLine → List Line.Line
lines_seen task lent values own = map without_facts lent ++ map (line_seen task values) own

-- how many cases the line with this number has, and the facts of one
abbrev pub count_at : List Line.Line → ℕ → Option ℕ
count_at lines number = option_and_then case_count (slice_get lines number)

abbrev pub case_at : List Line.Line → ℕ → ℕ → Option (List Atom)
case_at lines number case = option_and_then (λ line. case_of line case) (slice_get lines number)

-- the atoms of a disjunct of a form
abbrev pub disjunct_at : CitedTask → ℕ → ℕ → Option (List Atom)
disjunct_at task form number =
    option_and_then (λ (f : Form). slice_get f.disjuncts number) (slice_get task.forms form)

-- how a line of so many lists is kept: falsehood of none, facts of one, cases of more
abbrev pub line_made : ℕ → ℕ → ℕ → ℕ → OwnLine.OwnLine
line_made zero form start count = own.Falsum
line_made (suc zero) form start count = own.Facts
line_made (suc (suc more)) form start count = own.Cases form start count
