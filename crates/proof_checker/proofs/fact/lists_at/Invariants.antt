use Rattle.std.proofs.Common.{◌≡◌, map, take}
use Rattle.proof_checker.specs.Kept.{fact_at}
use Rattle.proof_checker.proofs.fact.lists_at.Given as goal

-- the first disjuncts at the elements
abbrev pub invariant-loop-atoms : goal.invariant-loop-atoms
invariant-loop-atoms l = l.lists ≡ map (map (fact_at l.elements)) (take l.atoms-index l.disjuncts)
