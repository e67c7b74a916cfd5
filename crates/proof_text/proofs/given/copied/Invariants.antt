use Rattle.std.proofs.Common.{◌≡◌, take}
use Rattle.proof_text.proofs.given.copied.Given as goal

-- the copies so far are the first facts
abbrev pub invariant-loop-fact : goal.invariant-loop-fact
invariant-loop-fact l = l.copies ≡ take l.fact-index l.facts
