use Rattle.std.proofs.Common.{◌≡◌, ◌++◌}
use Rattle.std.specs.List.{flat_map}
use Rattle.vernacular_tree.specs.Contexts.{counted}
use Rattle.coherent_form.specs.Noted.{complement_axioms}
use Rattle.coherent_form.proofs.axioms.push_complements.Given as goal

-- the axioms of the first symbols are there
abbrev pub invariant-loop-symbol : goal.invariant-loop-symbol
invariant-loop-symbol l = l.axioms ≡ l.fn.axioms ++ flat_map (complement_axioms l.tables l.seen) (counted 0 l.symbol)
