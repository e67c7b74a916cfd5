use Rattle.std.proofs.Common.{◌≡◌, ◌++◌, ◌≤◌, vec_capacity}
use Rattle.vernacular_tree.specs.Contexts.{counted}
use Rattle.kept_context.proofs.room.count_within.Given as goal

-- the first numbers are appended
abbrev pub invariant-loop-at : goal.invariant-loop-at
invariant-loop-at l = record {
  items : l.items.items ≡ l.fn.items.items ++ counted l.first l.at;
  capacity : vec_capacity l.fn.items ≤ vec_capacity l.items;
}
