use Rattle.std.proofs.Common.{◌≡◌, ◌++◌, drop}
use Rattle.tptp_lexer.specs.Written.{joined_texts}
use Rattle.tptp_lexer.proofs.Laws.{led}
use Rattle.isar_text.proofs.formula_text.put_joined.Given as goal

-- what is appended, and what the other texts add
abbrev pub invariant-loop-text : goal.invariant-loop-text
invariant-loop-text l =
    l.out ++ led l.before l.separator (drop l.text-index l.texts) ≡ l.fn.out ++ joined_texts l.separator l.texts
