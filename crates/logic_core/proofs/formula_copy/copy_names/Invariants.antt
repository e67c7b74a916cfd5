use Rattle.std.proofs.Common.{◌≡◌, take}
use Rattle.logic_core.proofs.formula_copy.copy_names.Given as goal

-- the copies so far are the first names
abbrev pub invariant-loop-name : goal.invariant-loop-name
invariant-loop-name l = l.copies ≡ take l.name-index l.names
