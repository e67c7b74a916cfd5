use Rattle.std.proofs.Common.{◌≡◌, map, take}
use Rattle.isar_text.specs.Names.{isar_name}
use Rattle.isar_text.proofs.formula_text.name_texts.Given as goal

-- the texts of the first names
abbrev pub invariant-loop-name : goal.invariant-loop-name
invariant-loop-name l = l.texts ≡ map isar_name (take l.name-index l.names)
