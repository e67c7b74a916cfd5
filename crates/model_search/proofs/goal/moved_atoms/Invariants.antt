use Rattle.std.proofs.Common.{◌≡◌, map, take}
use Rattle.model_search.specs.Rules.{atom_moved}
use Rattle.model_search.proofs.goal.moved_atoms.Given as goal

-- the first atoms are moved
abbrev pub invariant-loop-atom : goal.invariant-loop-atom
invariant-loop-atom l = l.moved ≡ map (atom_moved l.constants l.universals) (take l.atom-index l.atoms)
