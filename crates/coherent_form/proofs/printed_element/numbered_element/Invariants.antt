use Rattle.std.proofs.Common.{◌≡◌}
use Rattle.coherent_form.specs.ElementNames.{letters}
use Rattle.coherent_form.proofs.printed_element.numbered_element.Given as goal

-- as many letters as turns
abbrev pub invariant-loop : goal.invariant-loop
invariant-loop l = l.bytes ≡ letters l.counter
