use Rattle.std.specs.List.{AllByRecursion}
use Rattle.std.proofs.Common.{take}
use Rattle.finite_model.specs.Countermodels.{IsPlaced}
use Rattle.finite_model.proofs.sought.first_unplaced.Given as goal

-- the first constants have places
abbrev pub invariant-loop-number : goal.invariant-loop-number
invariant-loop-number l = AllByRecursion (IsPlaced l.lookup) (take l.number l.tables.constants)
