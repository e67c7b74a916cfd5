use Rattle.std.proofs.Common.{◌≡◌, ◌++◌, length, true}
use Rattle.text_core.specs.Names.{is_printable}
use Rattle.isar_text.specs.Digits as digits
use Rattle.isar_text.specs.Names as names
use Rattle.isar_text.proofs.hex.unhexed.Given as goal

-- the rest is digits, and its bytes follow those so far
abbrev pub invariant-loop-rest : goal.invariant-loop-rest
invariant-loop-rest l = (digits.are_pairs is_printable l.rest ≡ true) × (l.bytes ++ names.unhexed l.rest ≡ names.unhexed l.text)

abbrev pub decreases-loop-rest : goal.decreases-loop-rest
decreases-loop-rest l = length l.rest
