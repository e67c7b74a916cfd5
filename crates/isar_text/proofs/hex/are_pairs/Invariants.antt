use Rattle.std.proofs.Common.{◌≡◌, length}
use Rattle.isar_text.specs.Digits as digits
use Rattle.isar_text.proofs.hex.are_pairs.Given as goal

-- the rest passes where the text does
abbrev pub invariant-loop-rest : goal.invariant-loop-rest
invariant-loop-rest l = digits.are_pairs (digits.has l.class) l.rest ≡ digits.are_pairs (digits.has l.class) l.text

abbrev pub decreases-loop-rest : goal.decreases-loop-rest
decreases-loop-rest l = length l.rest
