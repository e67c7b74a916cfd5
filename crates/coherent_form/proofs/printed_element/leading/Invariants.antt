use Rattle.std.proofs.Common.{◌≡◌, ◌+◌, ◌≤◌, drop}
use Rattle.coherent_form.specs.ElementNames.{leading}
use Rattle.coherent_form.proofs.printed_element.leading.Given as goal

-- all bytes so far are the letter, and the others say how many follow
abbrev pub invariant-loop-byte : goal.invariant-loop-byte
invariant-loop-byte l = record {
  whole : l.count + leading (drop l.byte-index l.name) ≡ leading l.name;
  few : l.count ≤ l.byte-index;
}
