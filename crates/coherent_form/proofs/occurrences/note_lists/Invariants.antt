use Rattle.std.proofs.Common.{take}
use Rattle.std.specs.List.{list_any}
use Rattle.coherent_form.specs.Noted.{AreNoted}
use Rattle.coherent_form.proofs.occurrences.note_lists.Given as goal

-- the atoms of the first lists are noted
abbrev pub invariant-loop-atoms : goal.invariant-loop-atoms
invariant-loop-atoms l = AreNoted l.fn.seen l.seen (λ test. list_any (list_any test) (take l.atoms-index l.lists))
