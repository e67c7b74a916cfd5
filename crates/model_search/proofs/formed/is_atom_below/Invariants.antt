use Rattle.std.proofs.Common.{take}
use Rattle.std.specs.List.{AllByRecursion}
use Rattle.logic_core.specs.Forms.{SlotIsBelow}
use Rattle.model_search.proofs.formed.is_atom_below.Given as goal

abbrev pub invariant-loop-slot : goal.invariant-loop-slot
invariant-loop-slot l = AllByRecursion (SlotIsBelow l.variables l.constants) (take l.slot-index l.fn.atom.args)
