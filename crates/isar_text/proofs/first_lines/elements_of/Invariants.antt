use Rattle.std.proofs.Common.{◌≡◌, map, take}
use Rattle.instance_cursor.specs.Facts.{element_at}
use Rattle.isar_text.proofs.first_lines.elements_of.Given as goal

-- the elements of the first arguments
abbrev pub invariant-loop-slot : goal.invariant-loop-slot
invariant-loop-slot l = l.args ≡ map (element_at l.elements) (take l.slot-index l.atom.args)
