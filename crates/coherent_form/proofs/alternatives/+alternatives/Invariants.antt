use Rattle.std.proofs.Common.{◌≡◌, take}
use Rattle.coherent_form.specs.Each.{choices_in, offers_in}
use Rattle.coherent_form.proofs.alternatives.+alternatives.Given as goal

-- every choice from the first members
abbrev pub invariant-choices-loop-member : goal.invariant-choices-loop-member
invariant-choices-loop-member l = record {
  so_far : l.all ≡ choices_in l.tables l.fn.scope (take l.member-index l.members);
  scope : l.scope ≡ l.fn.scope;
}

-- the alternatives of the first members
abbrev pub invariant-offers-loop-member : goal.invariant-offers-loop-member
invariant-offers-loop-member l = record {
  so_far : l.all ≡ offers_in l.tables l.fn.scope (take l.member-index l.members);
  scope : l.scope ≡ l.fn.scope;
}
