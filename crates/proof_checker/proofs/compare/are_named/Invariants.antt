use Rattle.std.proofs.Common.{◌≡◌, map, take}
use Rattle.coherent_form.specs.Kept.{name_at}
use Rattle.proof_checker.proofs.compare.are_named.Given as goal

-- the first names are those of the first elements
abbrev pub invariant-loop-at : goal.invariant-loop-at
invariant-loop-at l = take l.at l.shown ≡ map (name_at l.names) (take l.at l.elements)
