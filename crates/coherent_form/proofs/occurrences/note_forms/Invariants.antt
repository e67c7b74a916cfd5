use Rattle.std.proofs.Common.{take}
use Rattle.coherent_form.specs.BuiltIns.{occurs}
use Rattle.coherent_form.specs.Noted.{AreNoted}
use Rattle.coherent_form.proofs.occurrences.note_forms.Given as goal

-- the atoms of the first forms are noted
abbrev pub invariant-loop-form : goal.invariant-loop-form
invariant-loop-form l = AreNoted l.fn.seen l.seen (λ test. occurs test (take l.form-index l.forms))
