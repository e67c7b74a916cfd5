use Rattle.io_core.proofs.Lookups.{held_by-insert}
use Rattle.io_core.proofs.memory_files.MemoryFiles.insert.Goals as goal

pub returns-clause-ok : goal.returns-clause-ok
returns-clause-ok c =
    let updates = c.in_ok-insert.ensures.updates in
    let is = held_by-insert c.self.inside.files.entries c.insert.new.self.entries c.in_ok-key.key c.in_ok-value.value updates.1 updates.3 in
    rw (is, c.in_ok-key.ensures.items, c.in_ok-value.ensures.items, ← c.self.view_is)
