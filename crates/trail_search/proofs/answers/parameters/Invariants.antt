use Rattle.std.proofs.Common.{◌≡◌}
use Rattle.vernacular_tree.specs.Contexts.{counted}
use Rattle.trail_search.proofs.answers.parameters.Given as goal

-- the first numbers in a row
abbrev pub invariant-loop-at : goal.invariant-loop-at
invariant-loop-at l = l.all ≡ counted l.first l.at
