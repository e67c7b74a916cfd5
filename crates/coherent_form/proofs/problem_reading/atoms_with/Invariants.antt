use Rattle.std.proofs.Common.{◌≡◌, ◌+◌, min, take}
use Rattle.std.specs.List.{sum_by}
use Rattle.coherent_form.specs.Gathered.{most_counted}
use Rattle.coherent_form.specs.Tasks.{atoms_in}
use Rattle.coherent_form.proofs.problem_reading.atoms_with.Given as goal

-- the atoms of the forms so far
abbrev pub invariant-loop-form : goal.invariant-loop-form
invariant-loop-form l = l.all ≡ min (l.atoms + sum_by atoms_in (take l.form-index l.more)) most_counted
