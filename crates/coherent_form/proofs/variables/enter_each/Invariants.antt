use Rattle.std.proofs.Common.{take, nat_eq}
use Rattle.std.specs.List.{IsDistinct}
use Rattle.std.specs.Cmp.Lexicographic.{pointwise}
use Rattle.coherent_form.specs.NameNumbers.{IsLonger, AreNumbers}
use Rattle.coherent_form.proofs.variables.enter_each.Given as goal

-- the numbers of the first names
abbrev pub invariant-loop-variable : goal.invariant-loop-variable
invariant-loop-variable l = record {
  so_far : AreNumbers l.names.keys l.numbers (take l.variable-index l.variables);
  longer : IsLonger l.fn.names.keys l.names.keys;
  distinct : IsDistinct (pointwise nat_eq) l.names.keys;
}
