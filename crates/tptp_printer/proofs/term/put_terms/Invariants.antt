use Rattle.std.proofs.Common.{◌≡◌, ◌++◌, drop, map, codes}
use Rattle.std.specs.List.{AllByRecursion}
use Rattle.tptp_printer.specs.Canonical.{term_text, joined_texts}
use Rattle.tptp_printer.specs.Named.{TermIsNamed}
use Rattle.tptp_lexer.proofs.Laws.{led}
use Rattle.tptp_printer.proofs.term.put_terms.Given as goal

-- what is appended, and what the other terms add
abbrev pub invariant-loop-term : goal.invariant-loop-term
invariant-loop-term l = record {
  text : l.out ++ led l.before (codes ",") (map term_text (drop l.term-index l.terms)) ≡ l.fn.out ++ joined_texts (codes ",") (map term_text l.terms);
  named : AllByRecursion TermIsNamed (drop l.term-index l.terms) → AllByRecursion TermIsNamed l.terms;
}
