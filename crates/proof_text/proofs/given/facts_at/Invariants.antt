use Rattle.std.proofs.Common.{◌≡◌, map, take}
use Rattle.vernacular_tree.specs.Contexts.{atom_at}
use Rattle.proof_text.proofs.given.facts_at.Given as goal

-- the first atoms at the elements
abbrev pub invariant-loop-atom : goal.invariant-loop-atom
invariant-loop-atom l = l.facts ≡ map (atom_at l.elements) (take l.atom-index l.atoms)
