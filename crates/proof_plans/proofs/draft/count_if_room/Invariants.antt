use Rattle.std.proofs.Common.{◌≡◌, ◌++◌}
use Rattle.vernacular_tree.specs.Contexts.{counted}
use Rattle.proof_plans.proofs.draft.count_if_room.Given as goal

-- the first numbers are appended
abbrev pub invariant-loop-at : goal.invariant-loop-at
invariant-loop-at l = l.items.items ≡ l.fn.items.items ++ counted l.first l.at
