use Rattle.std.proofs.Common.{◌≡◌, ◌++◌, drop}
use Rattle.isar_text.specs.Names as names
use Rattle.isar_text.proofs.hex.put_hex.Given as goal

-- what is appended, and what the other bytes add
abbrev pub invariant-loop-byte : goal.invariant-loop-byte
invariant-loop-byte l = l.out ++ names.hex_text (drop l.byte-index l.bytes) ≡ l.fn.out ++ names.hex_text l.bytes
