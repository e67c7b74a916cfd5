use Rattle.std.proofs.Common.{length, ◌-◌}
use Rattle.isar_text.proofs.Scanned.{IsScanned}
use Rattle.isar_text.proofs.lexer.spans.Given as goal

-- the spans are what was read up to the offset
abbrev pub invariant-loop-spans : goal.invariant-loop-spans
invariant-loop-spans l = IsScanned l.source l.start l.spans l.at

abbrev pub decreases-loop-spans : goal.decreases-loop-spans
decreases-loop-spans l = length l.source - l.at
