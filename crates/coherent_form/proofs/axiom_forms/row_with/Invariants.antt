use Rattle.std.proofs.Common.{◌≡◌, map}
use Rattle.logic_core.specs.declared.form.Slot.TheVariants.{Variable}
use Rattle.vernacular_tree.specs.Contexts.{counted}
use Rattle.coherent_form.specs.BuiltIns.{with_place}
use Rattle.coherent_form.proofs.axiom_forms.row_with.Given as goal

-- the first variables are there
abbrev pub invariant-loop-variable : goal.invariant-loop-variable
invariant-loop-variable l = l.slots ≡ map Variable (with_place l.place l.other (counted 0 l.variable))
