use Rattle.std.proofs.Common.{◌≡◌, ◌+◌, min, take, length}
use Rattle.std.specs.List.{sum_by}
use Rattle.coherent_form.specs.Gathered.{most_counted}
use Rattle.coherent_form.proofs.problem_reading.atoms_of.Given as goal

-- the atoms of the premises and of the disjuncts so far
abbrev pub invariant-loop-atoms : goal.invariant-loop-atoms
invariant-loop-atoms l = l.all ≡ min (length l.form.premises + sum_by length (take l.atoms-index l.atoms-items)) most_counted
