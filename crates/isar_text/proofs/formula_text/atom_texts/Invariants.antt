use Rattle.std.proofs.Common.{◌≡◌, map, take}
use Rattle.isar_text.specs.Formulas.{atom_text}
use Rattle.isar_text.proofs.formula_text.atom_texts.Given as goal

-- the texts of the first atoms
abbrev pub invariant-loop-atom : goal.invariant-loop-atom
invariant-loop-atom l = l.texts ≡ map atom_text (take l.atom-index l.atoms)
