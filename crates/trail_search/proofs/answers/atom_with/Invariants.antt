use Rattle.std.proofs.Common.{◌≡◌, map, take}
use Rattle.trail_search.specs.Answers.{slot_with}
use Rattle.trail_search.proofs.answers.atom_with.Given as goal

-- the first slots
abbrev pub invariant-loop-slot : goal.invariant-loop-slot
invariant-loop-slot l = l.args ≡ map (slot_with l.elements) (take l.slot-index l.atom.args)
