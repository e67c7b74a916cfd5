use Rattle.std.proofs.Common.{◌≡◌, ◌++◌}
use Rattle.vernacular_tree.specs.Contexts.{counted}
use Rattle.proof_checker.proofs.step.with_counted.Given as goal

-- the elements and the first of those in a row
abbrev pub invariant-loop-at : goal.invariant-loop-at
invariant-loop-at l = l.all ≡ l.elements ++ counted l.first l.at
