use Rattle.std.specs.List.{AllByRecursion}
use Rattle.proof_text.specs.Named.{BindIsNamed}
use Rattle.std.proofs.Common.{◌≡◌, ◌++◌, drop, map, codes}
use Rattle.tptp_lexer.specs.Written.{joined_texts}
use Rattle.tptp_lexer.proofs.Laws.{led}
use Rattle.proof_text.specs.Canonical.{bind_text}
use Rattle.proof_text.proofs.step_text.put_binds.Given as goal

-- what is appended, and what the other values add
abbrev pub invariant-loop-bind : goal.invariant-loop-bind
invariant-loop-bind l = record {
  text : l.out ++ led l.before (codes ",") (map bind_text (drop l.bind-index l.binds)) ≡ l.fn.out ++ joined_texts (codes ",") (map bind_text l.binds);
  named : AllByRecursion BindIsNamed (drop l.bind-index l.binds) → AllByRecursion BindIsNamed l.binds;
}
