use Rattle.std.proofs.Common.{◌≡◌, ◌++◌, map}
use Rattle.vernacular_tree.specs.Contexts.{counted}
use Rattle.coherent_form.specs.declared.source.BuiltIn.TheVariants.{Sub}
use Rattle.coherent_form.proofs.axioms.push_places.Given as goal

-- the first places are there
abbrev pub invariant-loop-place : goal.invariant-loop-place
invariant-loop-place l = l.axioms ≡ l.fn.axioms ++ map (Sub l.positive l.symbol) (counted 1 l.place)
