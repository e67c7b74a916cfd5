use Rattle.std.proofs.Common.{◌≡◌, ◌<◌, ◌^◌, take}
use Rattle.coherent_form.specs.ElementNames.{most_leading}
use Rattle.coherent_form.proofs.printed_element.prefix_letters.Given as goal

-- the most letters with which any of the first constants begins
abbrev pub invariant-loop-constant : goal.invariant-loop-constant
invariant-loop-constant l = record {
  most : l.most ≡ most_leading (take l.constant l.tables.constants);
  few : l.most < 2 ^ 63;
}
