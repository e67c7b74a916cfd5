use Rattle.std.proofs.Common.{◌+◌, ◌*◌, ◌≡◌, length}
use Rattle.std.specs.List.{AllByRecursion}
use Rattle.std.specs.Vec.Iter.{into_iter_items, into_iter_len}
use Rattle.logic_core.specs.Allowed.{ItemIsAllowed}
use Rattle.include_flat.specs.Progress.{selections_of}
use Rattle.include_flat.proofs.Passing.{Underway}
use Rattle.include_flat.proofs.walk.+walk.Given as goal

abbrev pub decreases-walk_file : goal.decreases-walk_file
decreases-walk_file g l = 3 * l.left

abbrev pub decreases-walk_inclusion : goal.decreases-walk_inclusion
decreases-walk_inclusion g l = 3 * l.left + 1

abbrev pub decreases-walk_items : goal.decreases-walk_items
decreases-walk_items g l = 3 * l.left + 2

abbrev pub invariant-walk_items-loop-item : goal.invariant-walk_items-loop-item
invariant-walk_items-loop-item g l = record {
  underway : Underway (g.F.Files.known l.fn.files) (g.F.Files.known l.files)
      l.fn.left (selections_of l.fn.selected) l.fn.file l.fn.items (into_iter_items l.item-iterator) l.fn.walked l.walked;
  allowed : AllByRecursion ItemIsAllowed (into_iter_items l.item-iterator);
  len : into_iter_len l.item-iterator ≡ length (into_iter_items l.item-iterator);
  file : l.file ≡ l.fn.file;
}
