use Rattle.std.proofs.Common.{◌≡◌, take, map}
use Rattle.logic_core.specs.Truth.{term_value}
use Rattle.finite_model.specs.Structures.{finite}
use Rattle.finite_model.proofs.truth.atom_is_true.Given as goal

-- the values of the first terms
abbrev pub invariant-loop-term : goal.invariant-loop-term
invariant-loop-term l = l.arguments ≡ map (term_value (finite l.lookup) l.values) (take l.term-index l.terms)
