use Rattle.std.proofs.Common.{◌≡◌, ◌++◌, codes, drop, map}
use Rattle.tptp_lexer.specs.Written.{joined_texts}
use Rattle.tptp_lexer.proofs.Laws.{led}
use Rattle.isar_text.specs.Formulas.{part_text}
use Rattle.isar_text.proofs.formula_text.put_parts.Given as goal

-- what is appended, and what the other parts add
abbrev pub invariant-loop-part : goal.invariant-loop-part
invariant-loop-part l =
    l.out ++ led l.before (codes " | ") (map part_text (drop l.part-index l.parts)) ≡ l.fn.out ++ joined_texts (codes " | ") (map part_text l.parts)
