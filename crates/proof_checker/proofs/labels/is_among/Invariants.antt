use Rattle.std.proofs.Common.{take}
use Rattle.text_core.specs.Lists.{IsAmong}
use Rattle.proof_checker.proofs.labels.is_among.Given as goal

-- it is none of the first labels
abbrev pub invariant-loop-other : goal.invariant-loop-other
invariant-loop-other l = IsAmong l.label (take l.other-index l.labels) → ⊥
