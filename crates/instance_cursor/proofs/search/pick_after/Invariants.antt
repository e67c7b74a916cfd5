use Rattle.instance_cursor.proofs.Depths.{IsBack}
use Rattle.instance_cursor.proofs.search.pick_after.Given as goal

abbrev pub invariant-loop-depth : goal.invariant-loop-depth
invariant-loop-depth l = IsBack l.space l.fn.picks l.depth l.picks
