use Rattle.std.proofs.Common.{◌≡◌, take}
use Rattle.coherent_form.specs.Reading.{Extends}
use Rattle.coherent_form.specs.Each.{with_names_of_each}
use Rattle.coherent_form.proofs.numbering.+names.Given as goal

-- the tables have the names of the first members
abbrev pub invariant-enter_each-loop-member : goal.invariant-enter_each-loop-member
invariant-enter_each-loop-member l = record {
  so_far : l.tables ≡ with_names_of_each (take l.member-index l.members) l.fn.tables;
  extends : Extends l.fn.tables l.tables;
}
