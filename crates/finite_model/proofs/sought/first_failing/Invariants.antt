use Rattle.std.specs.List.{AllByRecursion}
use Rattle.std.proofs.Common.{take}
use Rattle.finite_model.specs.Structures.{finite}
use Rattle.finite_model.specs.Countermodels.{Suits}
use Rattle.finite_model.proofs.sought.first_failing.Given as goal

-- the first formulas are as they are wanted
abbrev pub invariant-loop-number : goal.invariant-loop-number
invariant-loop-number l = AllByRecursion (Suits (finite l.lookup)) (take l.number l.formulas)
