use Rattle.std.proofs.Common.{◌≡◌, ◌++◌, drop}
use Rattle.std.specs.List.{AllByRecursion}
use Rattle.coherent_form.specs.Fitting.{FormFits}
use Rattle.isar_text.specs.Heads.{forms_text}
use Rattle.isar_text.proofs.head_text.put_forms.Given as goal

-- the lines so far, and those that follow, whose forms fit
abbrev pub invariant-loop-number : goal.invariant-loop-number
invariant-loop-number l = record {
  text : l.out ++ forms_text l.task.tables l.number (drop l.number l.forms) ≡ l.fn.out ++ forms_text l.task.tables 0 l.forms;
  others : AllByRecursion (FormFits l.task.tables) (drop l.number l.forms);
}
