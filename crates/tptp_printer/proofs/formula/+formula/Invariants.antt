use Rattle.std.proofs.Common.{◌≡◌, ◌++◌, drop, map}
use Rattle.std.specs.List.{AllByRecursion}
use Rattle.tptp_printer.specs.Canonical.{joined_texts, in_unit, formula_text}
use Rattle.tptp_printer.specs.Named.{IsNamed}
use Rattle.tptp_lexer.proofs.Laws.{led}
use Rattle.tptp_printer.proofs.formula.+formula.Given as goal

-- what is appended, and what the other members add
abbrev pub invariant-put_chain-loop-member : goal.invariant-put_chain-loop-member
invariant-put_chain-loop-member l = record {
  text : l.out ++ led l.before l.sign (map (λ g. in_unit g (formula_text g)) (drop l.member-index l.members)) ≡ l.fn.out ++ joined_texts l.sign (map (λ g. in_unit g (formula_text g)) l.members);
  named : AllByRecursion IsNamed (drop l.member-index l.members) → AllByRecursion IsNamed l.members;
}
