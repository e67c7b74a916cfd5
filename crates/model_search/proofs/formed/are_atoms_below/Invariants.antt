use Rattle.std.proofs.Common.{take}
use Rattle.std.specs.List.{AllByRecursion}
use Rattle.logic_core.specs.Forms.{AtomIsBelow}
use Rattle.model_search.proofs.formed.are_atoms_below.Given as goal

abbrev pub invariant-loop-atom : goal.invariant-loop-atom
invariant-loop-atom l = AllByRecursion (AtomIsBelow l.variables l.constants) (take l.atom-index l.atoms)
