use Rattle.std.proofs.Common.{take}
use Rattle.proof_text.specs.StandsFor.{NamesStand}
use Rattle.proof_checker.proofs.args.elements_of.Given as goal

-- the first names stand for the elements
abbrev pub invariant-loop-text : goal.invariant-loop-text
invariant-loop-text l = NamesStand l.trail.names (take l.text-index l.texts) l.elements
