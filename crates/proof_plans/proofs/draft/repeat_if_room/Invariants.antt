use Rattle.std.proofs.Common.{◌≡◌, ◌++◌, replicate}
use Rattle.proof_plans.proofs.draft.repeat_if_room.Given as goal

-- the first items are appended
abbrev pub invariant-loop-done : goal.invariant-loop-done
invariant-loop-done l = l.items.items ≡ l.fn.items.items ++ replicate l.done l.item
