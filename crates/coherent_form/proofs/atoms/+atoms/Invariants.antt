use Rattle.std.proofs.Common.{◌≡◌, ◌++◌, take}
use Rattle.coherent_form.specs.Each.{atoms_in}
use Rattle.coherent_form.proofs.atoms.+atoms.Given as goal

-- the atoms of the first members are appended
abbrev pub invariant-push_each-loop-member : goal.invariant-push_each-loop-member
invariant-push_each-loop-member l = l.atoms ≡ l.fn.atoms ++ atoms_in l.tables l.scope (take l.member-index l.members)
