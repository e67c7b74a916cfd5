use Rattle.std.proofs.Common.{length, ◌-◌, ◌≡◌}
use Rattle.tptp_lexer.specs.Scanning.{quote_end}
use Rattle.tptp_lexer.proofs.Quotes.{told}
use Rattle.tptp_lexer.proofs.quote.quote_end.Given as goal

-- the bytes from the offset on end as all of them do
abbrev pub invariant-loop-at : goal.invariant-loop-at
invariant-loop-at l = told l.quote l.bytes l.at ≡ quote_end l.quote l.bytes

abbrev pub decreases-loop-at : goal.decreases-loop-at
decreases-loop-at l = length l.bytes - l.at
