use Rattle.std.proofs.Common.{take}
use Rattle.std.specs.List.{list_any}
use Rattle.coherent_form.specs.Noted.{AreNoted}
use Rattle.coherent_form.proofs.occurrences.note_atoms.Given as goal

-- the first atoms are noted
abbrev pub invariant-loop-atom : goal.invariant-loop-atom
invariant-loop-atom l = AreNoted l.fn.seen l.seen (λ test. list_any test (take l.atom-index l.atoms))
