use Rattle.std.proofs.Common.{◌≡◌, map, take}
use Rattle.coherent_form.specs.Reading.{slot_of}
use Rattle.coherent_form.proofs.atoms.slots_of.Given as goal

-- the slots of the first terms
abbrev pub invariant-loop-term : goal.invariant-loop-term
invariant-loop-term l = l.slots ≡ map (slot_of l.tables l.scope) (take l.term-index l.terms)
