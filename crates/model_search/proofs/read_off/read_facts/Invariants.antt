use Rattle.std.specs.List.{AllByRecursion}
use Rattle.model_text.specs.Structures.{AreElements}
use Rattle.model_text.specs.declared.structure.Fact.{Fact}
use Rattle.model_search.proofs.read_off.read_facts.Given as goal

-- the facts so far are of elements
abbrev pub invariant-loop-symbol : goal.invariant-loop-symbol
invariant-loop-symbol l = AllByRecursion (λ (f : Fact). AreElements l.size f.arguments) l.facts
