use Rattle.std.proofs.Common.{◌≡◌, ◌++◌, drop, codes}
use Rattle.tptp_printer.specs.Canonical.{joined_texts}
use Rattle.tptp_lexer.proofs.Laws.{led}
use Rattle.tptp_printer.proofs.formula.put_names.Given as goal

-- what is appended, and what the other names add
abbrev pub invariant-loop-name : goal.invariant-loop-name
invariant-loop-name l = l.out ++ led l.before (codes ",") (drop l.name-index l.names) ≡ l.fn.out ++ joined_texts (codes ",") l.names
