use Rattle.std.proofs.Common.{◌≡◌, map, take}
use Rattle.proof_text.specs.Printing.{printed}
use Rattle.proof_text.proofs.printed.element_names.Given as goal

-- the names of the first elements
abbrev pub invariant-loop-element : goal.invariant-loop-element
invariant-loop-element l = l.names ≡ map (printed l.task) (take l.element-index l.elements)
