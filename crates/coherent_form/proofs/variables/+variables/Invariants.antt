use Rattle.std.proofs.Common.{take, nat_eq}
use Rattle.std.specs.List.{IsDistinct}
use Rattle.std.specs.Cmp.Lexicographic.{pointwise}
use Rattle.coherent_form.specs.NameNumbers.{IsLonger, AreListsOf, universal_names_in}
use Rattle.coherent_form.proofs.variables.+variables.Given as goal

-- the forms of the first members
abbrev pub invariant-variables_of_each-loop-member : goal.invariant-variables_of_each-loop-member
invariant-variables_of_each-loop-member l = record {
  so_far : AreListsOf l.names.keys l.all (universal_names_in (take l.member-index l.members));
  longer : IsLonger l.fn.names.keys l.names.keys;
  distinct : IsDistinct (pointwise nat_eq) l.names.keys;
}
