-- The first line of a branch that has a fact, and the first that is falsehood.
use Rattle.std.specs.Prelude.{ℕ, ◌==◌, Bool, true, false, ◌&&◌, List, [], ◌∷◌, position, unwrap_or}
use Rattle.std.specs.List.{list_any}
use Rattle.logic_core.specs.declared.form.Slot.{Slot}
use Rattle.logic_core.specs.declared.form.Slot.TheVariants.{Variable, Constant}
use Rattle.logic_core.specs.declared.form.Atom.{Atom}
use Rattle.vernacular_tree.specs.declared.context.Line.{Line}
use Rattle.vernacular_tree.specs.declared.context.Line.TheVariants.{Facts, Cases, Falsum}

-- whether two arguments are one
abbrev pub same_slot : Slot → Slot → Bool
same_slot (Variable i) (Variable j) = i == j
same_slot (Constant a) (Constant b) = a == b
same_slot _ _ = false

abbrev pub same_slots : List Slot → List Slot → Bool
same_slots [] [] = true
same_slots (a ∷ as_one) (b ∷ others) = same_slot a b && same_slots as_one others
same_slots _ _ = false

abbrev pub same_sign : Bool → Bool → Bool
same_sign true true = true
same_sign false false = true
same_sign _ _ = false

-- whether two atoms are one: the same sign, symbol and arguments
abbrev pub same_atom : Atom → Atom → Bool
same_atom a b = same_sign a.positive b.positive && a.symbol == b.symbol && same_slots a.args b.args

-- whether a line of facts has the fact
abbrev pub has_fact : Atom → Line → Bool
has_fact fact (Facts facts) = list_any (same_atom fact) facts
has_fact fact _ = false

abbrev pub is_falsum : Line → Bool
is_falsum Falsum = true
is_falsum _ = false

-- the number of the first line that has the fact
abbrev pub first_with : List Line → Atom → ℕ
first_with lines fact = unwrap_or (position (has_fact fact) lines) 0

-- the number of the first line that is falsehood
abbrev pub first_falsum : List Line → ℕ
first_falsum lines = unwrap_or (position is_falsum lines) 0
