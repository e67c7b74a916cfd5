-- Where the element of each variable is read once a fact is picked for each premise.
use Rattle.std.specs.Prelude.{ℕ, zero, suc, ◌+◌, ◌==◌, Bool, false, List, [], ◌∷◌, ◌++◌, length, Option, Some, None, if◌then◌else◌}
use Rattle.std.specs.Option.{is_some, unwrap_or}
use Rattle.std.specs.List.{position}
use Rattle.logic_core.specs.declared.form.Slot.{Slot}
use Rattle.logic_core.specs.declared.form.Slot.TheVariants.{Variable, Constant}
use Rattle.logic_core.specs.declared.form.Atom.{Atom}
use Rattle.instance_cursor.specs.declared.origin.Origin.{Origin}

-- whether a slot is the variable with this number
abbrev pub is_variable : ℕ → Slot → Bool
is_variable variable (Variable i) = i == variable
is_variable variable (Constant c) = false

-- a position at this depth, or else a later origin
abbrev pub or_later : ℕ → Option ℕ → Option Origin → Option Origin
or_later depth None later = later
or_later depth (Some position) later = Some (record { depth = depth; position = position })

-- the first place of a variable in premises that are numbered from a depth on
abbrev pub first_occurrence : ℕ → ℕ → List Atom → Option Origin
first_occurrence variable depth [] = None
first_occurrence variable depth (atom ∷ atoms) =
    or_later depth (position (is_variable variable) atom.args) (first_occurrence variable (depth + 1) atoms)

-- the variables below a number that are in no premise
abbrev pub free_variables : List Atom → ℕ → List ℕ
free_variables premises zero = []
free_variables premises (suc variable) = free_variables premises variable
    ++ (if is_some (first_occurrence variable 0 premises) then [] else variable ∷ [])

-- the origin of a variable: its first place; one in no premise has a depth of its own behind them
abbrev pub origin_of : List Atom → ℕ → Origin
origin_of premises variable = unwrap_or (first_occurrence variable 0 premises) (record {
  depth = length premises + length (free_variables premises variable);
  position = 0;
})

-- the origins of the variables below a number
abbrev pub origins_of : List Atom → ℕ → List Origin
origins_of premises zero = []
origins_of premises (suc variable) =
    origins_of premises variable ++ origin_of premises variable ∷ []
