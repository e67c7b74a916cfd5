use Rattle.std.proofs.Common.{◌≡◌, map, take}
use Rattle.isar_text.specs.Formulas.{atom_text}
use Rattle.isar_text.proofs.formula_text.part_texts.Given as goal

-- the texts of the atoms of the first parts
abbrev pub invariant-loop-part : goal.invariant-loop-part
invariant-loop-part l = l.texts ≡ map (map atom_text) (take l.part-index l.parts)
