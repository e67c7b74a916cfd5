use Rattle.std.proofs.Common.{◌≡◌, map, take, drop}
use Rattle.std.specs.List.{AllByRecursion}
use Rattle.proof_text.specs.Showing.{FactFits}
use Rattle.proof_text.specs.Printing.{printed_facts}
use Rattle.proof_text.proofs.printed.named_lists.Given as goal

-- the first lists are written; the others fit
abbrev pub invariant-loop-facts : goal.invariant-loop-facts
invariant-loop-facts l = record {
  named : l.named ≡ map (printed_facts l.task) (take l.facts-index l.lists);
  others : AllByRecursion (AllByRecursion (FactFits l.task.tables)) (drop l.facts-index l.lists);
}
