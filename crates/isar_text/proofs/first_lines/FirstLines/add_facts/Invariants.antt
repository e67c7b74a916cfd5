use Rattle.std.proofs.Common.{◌≡◌, ◌<◌, ◌^◌, drop}
use Rattle.isar_text.specs.Firsts.{FactsAreBelow, with_facts}
use Rattle.isar_text.proofs.first_lines.FirstLines.add_facts.Given as goal

-- what is kept behind the facts so far, and those that are left
abbrev pub invariant-loop-fact : goal.invariant-loop-fact
invariant-loop-fact l = record {
  kept : with_facts l.number (drop l.fact-index l.facts) l.self ≡ with_facts l.number l.facts l.fn.self;
  low : FactsAreBelow l.self.signed (drop l.fact-index l.facts);
  small : l.self.signed < 2 ^ 32;
}
