use Rattle.std.proofs.Common.{◌≡◌, map, take}
use Rattle.coherent_form.specs.Reading.{slot_moved}
use Rattle.coherent_form.proofs.atoms.atom_moved.Given as goal

-- the first arguments are copied
abbrev pub invariant-loop-slot : goal.invariant-loop-slot
invariant-loop-slot l = l.args ≡ map (slot_moved l.from l.by) (take l.slot-index l.slot-items)
