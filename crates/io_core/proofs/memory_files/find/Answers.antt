use Rattle.std.proofs.Common.{sym}
use Rattle.io_core.proofs.Lookups.{get-held_by-none, get-held_by-some}
use Rattle.io_core.proofs.memory_files.find.Goals as goal

pub returns-in-Some : goal.returns-in-Some
returns-in-Some c = rw (c.if-listed.false, c.as_slice.ensures.value) (sym (get-held_by-some _ _ _ (sym c.in-Some.ensures.value)))

pub returns-in-None : goal.returns-in-None
returns-in-None c = rw c.if-listed.false (sym (get-held_by-none _ _ (sym c.in-None.ensures.value)))
