use Rattle.std.proofs.Common.{◌≡◌, List, map}
use Rattle.text_core.specs.Names.{Text}
use Rattle.logic_core.specs.declared.form.Form.{Form}
use Rattle.vernacular_tree.specs.Contexts.{counted}
use Rattle.coherent_form.specs.Labels.{label_of}
use Rattle.proof_checker.specs.Running.{AreItsVariables}
use Rattle.proof_checker.proofs.labels.labels_of.Given as goal

-- the labels of the first variables
abbrev pub invariant-loop-variable : goal.invariant-loop-variable
invariant-loop-variable l = (f : Form) (variables : List Text) → AreItsVariables l.task l.form f variables
    → l.labels ≡ map (label_of variables) (counted 0 l.variable)
