use Rattle.std.proofs.Common.{◌≡◌, take}
use Rattle.logic_core.proofs.formula_copy.copy_terms.Given as goal

-- the copies so far are the first terms
abbrev pub invariant-loop-term : goal.invariant-loop-term
invariant-loop-term l = l.copies ≡ take l.term-index l.terms
