use Rattle.std.proofs.Common.{take, nat_eq}
use Rattle.std.specs.List.{IsDistinct}
use Rattle.std.specs.Cmp.Lexicographic.{pointwise}
use Rattle.coherent_form.specs.NameNumbers.{IsLonger, AreListsOf, choice_names_in, offer_names_in}
use Rattle.coherent_form.proofs.variables.+alternatives.Given as goal

-- every choice from the first members
abbrev pub invariant-choices-loop-member : goal.invariant-choices-loop-member
invariant-choices-loop-member l = record {
  so_far : AreListsOf l.names.keys l.all (choice_names_in (take l.member-index l.members));
  longer : IsLonger l.fn.names.keys l.names.keys;
  distinct : IsDistinct (pointwise nat_eq) l.names.keys;
}

-- the alternatives of the first members
abbrev pub invariant-offers-loop-member : goal.invariant-offers-loop-member
invariant-offers-loop-member l = record {
  so_far : AreListsOf l.names.keys l.all (offer_names_in (take l.member-index l.members));
  longer : IsLonger l.fn.names.keys l.names.keys;
  distinct : IsDistinct (pointwise nat_eq) l.names.keys;
}
