use Rattle.std.proofs.Common.{◌≡◌, map, take, drop}
use Rattle.std.specs.List.{AllByRecursion}
use Rattle.proof_text.specs.Showing.{IsElement}
use Rattle.proof_text.specs.Printing.{printed_slot}
use Rattle.proof_text.proofs.printed.argument_names.Given as goal

-- the names of the first arguments; the others are elements
abbrev pub invariant-loop-slot : goal.invariant-loop-slot
invariant-loop-slot l = record {
  names : l.names ≡ map (printed_slot l.task) (take l.slot-index l.slots);
  others : AllByRecursion IsElement (drop l.slot-index l.slots);
}
