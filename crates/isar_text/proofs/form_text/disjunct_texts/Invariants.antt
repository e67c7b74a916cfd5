use Rattle.std.proofs.Common.{◌≡◌, map, take, drop}
use Rattle.std.specs.List.{AllByRecursion}
use Rattle.isar_text.specs.Formulas.{form_atom}
use Rattle.isar_text.specs.FormTexts.{AtomIsThere, variable_in}
use Rattle.isar_text.proofs.form_text.disjunct_texts.Given as goal

-- the texts of the first disjuncts; the others are there
abbrev pub invariant-loop-disjunct : goal.invariant-loop-disjunct
invariant-loop-disjunct l = record {
  texts : l.texts ≡ map (map (form_atom l.task.tables (variable_in l.names))) (take l.disjunct-index l.disjuncts);
  others : AllByRecursion (AllByRecursion (AtomIsThere l.task.tables)) (drop l.disjunct-index l.disjuncts);
}
