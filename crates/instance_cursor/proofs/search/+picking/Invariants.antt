use Rattle.std.proofs.Common.{◌+◌, ◌-◌, ◌*◌, length}
use Rattle.instance_cursor.specs.Fitting.{behind}
use Rattle.instance_cursor.proofs.Depths.{IsOn}
use Rattle.instance_cursor.proofs.search.+picking.Given as goal

abbrev pub decreases-pick_from : goal.decreases-pick_from
decreases-pick_from l = 3 * (length l.picks.now - l.depth) + 2

abbrev pub decreases-pick_below : goal.decreases-pick_below
decreases-pick_below l = 3 * (length l.picks.now - l.depth) + 1

abbrev pub decreases-pick_at : goal.decreases-pick_at
decreases-pick_at l = 3 * (length l.picks.now - l.depth)

abbrev pub invariant-pick_below-loop-next : goal.invariant-pick_below-loop-next
invariant-pick_below-loop-next l = IsOn l.space l.depth l.fn.picks l.fn.from l.picks l.next

abbrev pub decreases-pick_below-loop-next : goal.decreases-pick_below-loop-next
decreases-pick_below-loop-next l = behind l.next
