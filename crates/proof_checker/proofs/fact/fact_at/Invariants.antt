use Rattle.std.proofs.Common.{◌≡◌, map, take}
use Rattle.proof_checker.specs.Kept.{element_at}
use Rattle.proof_checker.proofs.fact.fact_at.Given as goal

-- the elements of the first slots
abbrev pub invariant-loop-slot : goal.invariant-loop-slot
invariant-loop-slot l = l.args ≡ map (element_at l.elements) (take l.slot-index l.atom.args)
