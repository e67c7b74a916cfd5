use Rattle.std.proofs.Common.{◌≡◌, map, take}
use Rattle.coherent_form.specs.Reading.{atom_moved}
use Rattle.coherent_form.proofs.head.disjuncts_moved.Given as goal

-- the first disjuncts are copied
abbrev pub invariant-loop-disjunct : goal.invariant-loop-disjunct
invariant-loop-disjunct l = l.moved ≡ map (map (atom_moved l.from l.by)) (take l.disjunct-index l.disjuncts)
