use Rattle.std.specs.List.{AllByRecursion}
use Rattle.std.proofs.Common.{◌≡◌, ◌++◌, drop, flat_map}
use Rattle.model_text.specs.Canonical.{fact_text}
use Rattle.model_text.specs.Named.{FactIsNamed}
use Rattle.model_text.proofs.writer.put_facts.Given as goal

-- what is appended, and what the other facts add
abbrev pub invariant-loop-fact : goal.invariant-loop-fact
invariant-loop-fact l = record {
  text : l.out ++ flat_map fact_text (drop l.fact-index l.facts) ≡ l.fn.out ++ flat_map fact_text l.facts;
  named : AllByRecursion FactIsNamed (drop l.fact-index l.facts) → AllByRecursion FactIsNamed l.facts;
}
