use Rattle.std.proofs.Common.{◌≡◌, true, take}
use Rattle.std.specs.List.{AllByRecursion}
use Rattle.logic_core.specs.declared.form.Atom.{Atom}
use Rattle.instance_cursor.specs.Facts.{stands_at}
use Rattle.kept_context.proofs.fact.are_standing.Given as goal

-- the first atoms stand
abbrev pub invariant-loop-atom : goal.invariant-loop-atom
invariant-loop-atom l = AllByRecursion (λ (atom : Atom). stands_at l.store.facts l.elements atom ≡ true) (take l.atom-index l.atoms)
