use Rattle.std.proofs.Common.{◌≡◌, take}
use Rattle.coherent_form.specs.Each.{head_in}
use Rattle.coherent_form.proofs.head.+head.Given as goal

-- the conclusion that is any of the first members
abbrev pub invariant-head_of_each-loop-member : goal.invariant-head_of_each-loop-member
invariant-head_of_each-loop-member l = record {
  so_far : l.all ≡ head_in l.tables l.fn.scope (take l.member-index l.members);
  scope : l.scope ≡ l.fn.scope;
}
