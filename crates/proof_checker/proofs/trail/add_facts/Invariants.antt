use Rattle.std.proofs.Common.{take}
use Rattle.proof_checker.specs.Kept.{HasAlso}
use Rattle.proof_checker.proofs.trail.add_facts.Given as goal

-- the store has the first facts too
abbrev pub invariant-loop-fact : goal.invariant-loop-fact
invariant-loop-fact l = HasAlso (take l.fact-index l.facts) l.fn.store l.store
