use Rattle.std.proofs.Common.{◌≡◌, take}
use Rattle.coherent_form.specs.Reading.{Extends, with_terms}
use Rattle.coherent_form.proofs.numbering.enter_terms.Given as goal

-- the tables have the constants of the first terms
abbrev pub invariant-loop-term : goal.invariant-loop-term
invariant-loop-term l = record {
  so_far : l.tables ≡ with_terms l.fn.tables (take l.term-index l.terms);
  extends : Extends l.fn.tables l.tables;
}
