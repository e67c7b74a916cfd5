use Rattle.std.specs.List.{AllByRecursion}
use Rattle.proof_text.specs.Named.{AtomIsNamed}
use Rattle.std.proofs.Common.{◌≡◌, ◌++◌, drop, map}
use Rattle.tptp_lexer.specs.Written.{joined_texts}
use Rattle.tptp_lexer.proofs.Laws.{led}
use Rattle.proof_text.specs.Lines.{atom_text}
use Rattle.proof_text.proofs.line_text.put_atoms.Given as goal

-- what is appended, and what the other atoms add
abbrev pub invariant-loop-atom : goal.invariant-loop-atom
invariant-loop-atom l = record {
  text : l.out ++ led l.before l.separator (map (atom_text l.wording) (drop l.atom-index l.atoms)) ≡ l.fn.out ++ joined_texts l.separator (map (atom_text l.wording) l.atoms);
  named : AllByRecursion AtomIsNamed (drop l.atom-index l.atoms) → AllByRecursion AtomIsNamed l.atoms;
}
