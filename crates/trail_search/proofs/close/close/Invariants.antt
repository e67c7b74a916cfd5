use Rattle.std.proofs.Common.{◌≡◌}
use Rattle.trail_search.specs.Searches.{IsWide}
use Rattle.trail_search.proofs.Closing.{NoneAnswers}
use Rattle.trail_search.proofs.close.close.Given as goal

-- none of the first disjuncts stands
abbrev pub invariant-loop-disjunct : goal.invariant-loop-disjunct
invariant-loop-disjunct l = record {
  wide : IsWide l.cursor;
  found : l.found ≡ l.fn.found;
  none : NoneAnswers l.scene.task.now l.scene.lent.now l.kept l.scene.answers.now l.disjunct;
}
