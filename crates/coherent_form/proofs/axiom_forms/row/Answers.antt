use Rattle.std.proofs.Common.{[], ◌∷◌, map, arith}
use Rattle.logic_core.specs.declared.form.Slot.TheVariants.{Variable}
use Rattle.coherent_form.proofs.Counted.{counted_step, map_more}
use Rattle.coherent_form.proofs.axiom_forms.row.Goals as goal

pub loop-variable-preserved : goal.loop-variable-preserved
loop-variable-preserved c = counted_step (map Variable) (λ v. Variable v ∷ []) (map_more Variable) 0 c.loop-variable.variable c.loop-variable.variable (omega arith)
    [] c.loop-variable.slots c.push.new.self c.loop-variable.invariant c.in_ok-push.ensures.ok
