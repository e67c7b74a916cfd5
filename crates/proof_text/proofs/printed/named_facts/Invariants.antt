use Rattle.std.proofs.Common.{◌≡◌, map, take, drop}
use Rattle.std.specs.List.{AllByRecursion}
use Rattle.proof_text.specs.Showing.{FactFits}
use Rattle.proof_text.specs.Printing.{printed_atom}
use Rattle.proof_text.proofs.printed.named_facts.Given as goal

-- the first facts are written; the others fit
abbrev pub invariant-loop-fact : goal.invariant-loop-fact
invariant-loop-fact l = record {
  named : l.named ≡ map (printed_atom l.task) (take l.fact-index l.facts);
  others : AllByRecursion (FactFits l.task.tables) (drop l.fact-index l.facts);
}
