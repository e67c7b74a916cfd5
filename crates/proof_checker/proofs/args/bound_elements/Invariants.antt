use Rattle.std.proofs.Common.{take}
use Rattle.proof_text.specs.StandsFor.{EachGiven}
use Rattle.proof_checker.proofs.args.bound_elements.Given as goal

-- the first labels are given the elements
abbrev pub invariant-loop-label : goal.invariant-loop-label
invariant-loop-label l = EachGiven l.trail.names l.binds (take l.label-index l.labels) l.elements
