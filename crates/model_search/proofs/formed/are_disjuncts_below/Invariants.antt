use Rattle.std.proofs.Common.{take}
use Rattle.std.specs.List.{AllByRecursion}
use Rattle.logic_core.specs.Forms.{AtomIsBelow}
use Rattle.model_search.proofs.formed.are_disjuncts_below.Given as goal

abbrev pub invariant-loop-disjunct : goal.invariant-loop-disjunct
invariant-loop-disjunct l = AllByRecursion (AllByRecursion (AtomIsBelow l.variables l.constants)) (take l.disjunct-index l.disjuncts)
