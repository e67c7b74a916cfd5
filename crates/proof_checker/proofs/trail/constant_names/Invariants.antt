use Rattle.std.proofs.Common.{◌≡◌, take}
use Rattle.proof_checker.proofs.trail.constant_names.Given as goal

-- the first constants are named
abbrev pub invariant-loop-constant : goal.invariant-loop-constant
invariant-loop-constant l = l.names.keys ≡ take l.constant l.tables.constants
