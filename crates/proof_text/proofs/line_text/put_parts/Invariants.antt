use Rattle.std.specs.List.{AllByRecursion}
use Rattle.proof_text.specs.Named.{AtomsAreNamed}
use Rattle.std.proofs.Common.{◌≡◌, ◌++◌, drop, map}
use Rattle.tptp_lexer.specs.Written.{joined_texts}
use Rattle.tptp_lexer.proofs.Laws.{led}
use Rattle.proof_text.specs.Lines.{part_text}
use Rattle.proof_text.proofs.line_text.put_parts.Given as goal

-- what is appended, and what the other parts add
abbrev pub invariant-loop-part : goal.invariant-loop-part
invariant-loop-part l = record {
  text : l.out ++ led l.before l.separator (map (part_text l.wording) (drop l.part-index l.parts)) ≡ l.fn.out ++ joined_texts l.separator (map (part_text l.wording) l.parts);
  named : AllByRecursion AtomsAreNamed (drop l.part-index l.parts) → AllByRecursion AtomsAreNamed l.parts;
}
