use Rattle.std.proofs.Common.{◌≡◌, ◌≤◌, drop}
use Rattle.model_text.specs.Numbers.{number_after, most_number}
use Rattle.model_text.proofs.number.number_in.Given as goal

-- the number so far, followed by the digits that are left; it fits
abbrev pub invariant-loop-byte : goal.invariant-loop-byte
invariant-loop-byte l = (number_after 0 l.text ≡ number_after l.number (drop l.byte-index l.text)) × (l.number ≤ most_number)
