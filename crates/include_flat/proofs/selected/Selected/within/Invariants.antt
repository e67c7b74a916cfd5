use Rattle.std.proofs.Common.{◌≡◌, ◌++◌, length}
use Rattle.std.specs.Vec.Iter.{into_iter_items, into_iter_len}
use Rattle.include_flat.specs.Walks.{is_selected}
use Rattle.include_flat.specs.Progress.{selections_of}
use Rattle.include_flat.proofs.Selecting.{AreKept}
use Rattle.include_flat.proofs.selected.Selected.within.Given as goal

abbrev pub invariant-loop-name : goal.invariant-loop-name
invariant-loop-name l = record {
  rest : l.yielded ++ into_iter_items l.name-iterator ≡ l.fn.only;
  len : into_iter_len l.name-iterator ≡ length (into_iter_items l.name-iterator);
  kept : AreKept (is_selected (selections_of l.self)) l.names.keys l.yielded;
}
