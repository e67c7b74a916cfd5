use Rattle.std.proofs.Common.{◌≡◌, take}
use Rattle.proof_checker.proofs.fact.copy_facts.Given as goal

-- the first facts
abbrev pub invariant-loop-fact : goal.invariant-loop-fact
invariant-loop-fact l = l.copies ≡ take l.fact-index l.facts
