use Rattle.std.proofs.Common.{◌≡◌, ◌++◌, drop}
use Rattle.tptp_lexer.specs.Written.{escaped}
use Rattle.tptp_lexer.proofs.writer.put_escaped.Given as goal

-- what is appended, and what the other bytes add
abbrev pub invariant-loop-byte : goal.invariant-loop-byte
invariant-loop-byte l = l.out ++ escaped (drop l.byte-index l.bytes) ≡ l.fn.out ++ escaped l.bytes
