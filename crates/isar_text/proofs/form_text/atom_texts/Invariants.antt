use Rattle.std.proofs.Common.{◌≡◌, map, take, drop}
use Rattle.std.specs.List.{AllByRecursion}
use Rattle.isar_text.specs.Formulas.{form_atom}
use Rattle.isar_text.specs.FormTexts.{AtomIsThere, variable_in}
use Rattle.isar_text.proofs.form_text.atom_texts.Given as goal

-- the texts of the first atoms; the others are there
abbrev pub invariant-loop-atom : goal.invariant-loop-atom
invariant-loop-atom l = record {
  texts : l.texts ≡ map (form_atom l.task.tables (variable_in l.names)) (take l.atom-index l.atoms);
  others : AllByRecursion (AtomIsThere l.task.tables) (drop l.atom-index l.atoms);
}
