use Rattle.std.proofs.Common.{◌≡◌, ◌++◌, map, take}
use Rattle.coherent_form.specs.Reading.{atom_moved}
use Rattle.coherent_form.proofs.atoms.push_moved.Given as goal

-- the first atoms are appended
abbrev pub invariant-loop-atom : goal.invariant-loop-atom
invariant-loop-atom l = l.atoms ≡ l.fn.atoms ++ map (atom_moved l.from l.by) (take l.atom-index l.more)
