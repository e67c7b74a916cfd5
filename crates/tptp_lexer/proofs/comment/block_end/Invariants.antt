use Rattle.std.proofs.Common.{length, ◌-◌, ◌≡◌, ◌≤◌}
use Rattle.tptp_lexer.specs.Scanning.{block_end}
use Rattle.tptp_lexer.proofs.Comments.{told}
use Rattle.tptp_lexer.proofs.comment.block_end.Given as goal

-- the first `*/` from the offset on is the first of all
abbrev pub invariant-loop-at : goal.invariant-loop-at
invariant-loop-at l = record { read : told l.bytes l.at ≡ block_end l.bytes; within : l.at ≤ length l.bytes }

abbrev pub decreases-loop-at : goal.decreases-loop-at
decreases-loop-at l = length l.bytes - l.at
