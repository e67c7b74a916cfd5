use Rattle.std.proofs.Common.{◌≡◌, map, take}
use Rattle.vernacular_tree.specs.Contexts.{slot_at}
use Rattle.proof_text.proofs.given.slots_at.Given as goal

-- the first slots at the elements
abbrev pub invariant-loop-slot : goal.invariant-loop-slot
invariant-loop-slot l = l.at ≡ map (slot_at l.elements) (take l.slot-index l.slots)
