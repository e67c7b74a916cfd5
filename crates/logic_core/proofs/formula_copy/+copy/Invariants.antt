use Rattle.std.proofs.Common.{◌≡◌, take}
use Rattle.logic_core.proofs.formula_copy.+copy.Given as goal

-- the copies so far are the first formulas
abbrev pub invariant-copy_formulas-loop-formula : goal.invariant-copy_formulas-loop-formula
invariant-copy_formulas-loop-formula l = l.copies ≡ take l.formula-index l.formulas
