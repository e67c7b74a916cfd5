use Rattle.std.proofs.Common.{take}
use Rattle.finite_model.specs.Tabled.{HasFacts}
use Rattle.finite_model.proofs.lookup.table_facts.Given as goal

-- the first facts
abbrev pub invariant-loop-fact : goal.invariant-loop-fact
invariant-loop-fact l = HasFacts (take l.fact-index l.facts) l.table.keys
