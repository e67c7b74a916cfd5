use Rattle.std.proofs.Common.{◌≡◌, map, take}
use Rattle.vernacular_tree.specs.Contexts.{atom_at}
use Rattle.proof_text.proofs.given.lists_at.Given as goal

-- the first disjuncts at the elements
abbrev pub invariant-loop-disjunct : goal.invariant-loop-disjunct
invariant-loop-disjunct l = l.lists ≡ map (map (atom_at l.elements)) (take l.disjunct-index l.disjuncts)
