use Rattle.std.proofs.Common.{◌≡◌, map, take}
use Rattle.model_search.specs.Rules.{slot_moved}
use Rattle.model_search.proofs.goal.moved_atom.Given as goal

-- the first slots are moved
abbrev pub invariant-loop-slot : goal.invariant-loop-slot
invariant-loop-slot l = l.args ≡ map (slot_moved l.constants l.universals) (take l.slot-index l.atom.args)
