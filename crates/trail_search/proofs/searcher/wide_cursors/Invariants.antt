use Rattle.trail_search.specs.Searches.{HasCursors}
use Rattle.trail_search.proofs.searcher.wide_cursors.Given as goal

-- so many so far
abbrev pub invariant-loop-made : goal.invariant-loop-made
invariant-loop-made l = HasCursors l.made l.cursors.items
