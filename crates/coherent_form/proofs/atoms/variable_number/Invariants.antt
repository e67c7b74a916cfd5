use Rattle.std.proofs.Common.{◌≡◌, take}
use Rattle.coherent_form.specs.Reading.{variable_number}
use Rattle.coherent_form.proofs.atoms.variable_number.Given as goal

-- the number of the variable among the first names
abbrev pub invariant-loop-at : goal.invariant-loop-at
invariant-loop-at l = l.number ≡ variable_number (take l.at l.scope) l.name
