use Rattle.std.proofs.Common.{◌≡◌, length, map, take, drop}
use Rattle.std.specs.List.{AllByRecursion}
use Rattle.isar_text.specs.Formulas.{slot_text}
use Rattle.isar_text.specs.FormTexts.{SlotIsNamed, variable_in}
use Rattle.isar_text.proofs.form_text.slot_texts.Given as goal

-- the texts of the first arguments; the others have names
abbrev pub invariant-loop-slot : goal.invariant-loop-slot
invariant-loop-slot l = record {
  texts : l.texts ≡ map (slot_text l.task.tables (variable_in l.names)) (take l.slot-index l.slots);
  others : AllByRecursion (SlotIsNamed (length l.task.tables.constants)) (drop l.slot-index l.slots);
}
