use Rattle.std.proofs.Common.{◌≡◌}
use Rattle.coherent_form.specs.Tasks.{proof_task}
use Rattle.trail_search.specs.Least.{HasNone}
use Rattle.trail_search.specs.Searches.{HasCursors}
use Rattle.trail_search.proofs.look.look_least.Given as goal

-- there is no proof with so many rule applications
abbrev pub invariant-loop-smaller : goal.invariant-loop-smaller
invariant-loop-smaller l = record {
  same : l.kept ≡ l.fn.kept;
  cursors : HasCursors l.within l.cursors;
  found : l.found ≡ l.fn.found;
  none : HasNone (proof_task l.scene.task.now) l.scene.lent.now l.smaller;
}
