use Rattle.std.proofs.Common.{◌≡◌, map, take}
use Rattle.proof_checker.specs.Kept.{fact_at}
use Rattle.proof_checker.proofs.fact.facts_at.Given as goal

-- the first atoms at the elements
abbrev pub invariant-loop-atom : goal.invariant-loop-atom
invariant-loop-atom l = l.facts ≡ map (fact_at l.elements) (take l.atom-index l.atoms)
