use Rattle.std.proofs.Common.{◌≡◌, ◌+◌, ◌++◌, map}
use Rattle.vernacular_tree.specs.Contexts.{counted}
use Rattle.coherent_form.specs.declared.source.Source.TheVariants.{Formula}
use Rattle.coherent_form.proofs.problem_reading.push_sources.Given as goal

-- so many sources are put behind those that were there
abbrev pub invariant-loop-more : goal.invariant-loop-more
invariant-loop-more l = l.sources.keys ≡ l.fn.sources.keys ++ map (Formula l.name) (counted (l.rank + 1) l.more)
