use Rattle.std.proofs.Common.{◌≡◌, take}
use Rattle.std.proofs.Common.{map}
use Rattle.instance_cursor.specs.Facts.{element_at}
use Rattle.kept_context.proofs.fact.write_elements.Given as goal

-- the elements of the first slots are written
abbrev pub invariant-loop-at : goal.invariant-loop-at
invariant-loop-at l = take l.at l.buffer ≡ map (element_at l.elements) (take l.at l.slot-items)
