use Rattle.std.proofs.Common.{◌≡◌, take}
use Rattle.coherent_form.specs.Each.{forms_in}
use Rattle.coherent_form.proofs.rule.+rules.Given as goal

-- the forms of the first members
abbrev pub invariant-forms_of_each-loop-member : goal.invariant-forms_of_each-loop-member
invariant-forms_of_each-loop-member l = record {
  so_far : l.all ≡ forms_in l.tables l.fn.scope (take l.member-index l.members);
  scope : l.scope ≡ l.fn.scope;
}
