use Rattle.std.proofs.Common.{◌≡◌, map, take}
use Rattle.trail_search.specs.Answers.{atom_with}
use Rattle.trail_search.proofs.answers.atoms_with.Given as goal

-- the first atoms
abbrev pub invariant-loop-atom : goal.invariant-loop-atom
invariant-loop-atom l = l.others ≡ map (atom_with l.elements) (take l.atom-index l.atoms)
