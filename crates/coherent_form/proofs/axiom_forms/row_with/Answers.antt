use Rattle.std.proofs.Common.{ap, ◌∙◌, [], ◌∷◌, ◌++◌, ◌==◌, if◌then◌else◌, map, arith}
use Rattle.logic_core.specs.declared.form.Slot.TheVariants.{Variable}
use Rattle.coherent_form.specs.BuiltIns.{with_place}
use Rattle.coherent_form.proofs.Counted.{counted_step, map_more}
use Rattle.coherent_form.proofs.axiom_forms.row_with.Goals as goal

pub loop-variable-preserved : goal.loop-variable-preserved
loop-variable-preserved c =
    counted_step (λ vs. map Variable (with_place c.args.place c.args.other vs)) (λ v. Variable (if v == c.args.place then c.args.other else v) ∷ [])
    (λ xs x. ap (map Variable) (map_more (λ v. if v == c.args.place then c.args.other else v) xs x)
    ∙ map_more Variable (with_place c.args.place c.args.other xs) (if x == c.args.place then c.args.other else x))
    0 c.loop-variable.variable c.loop-variable.variable (omega arith)
    [] c.loop-variable.slots c.push.new.self c.loop-variable.invariant
    (c.in_ok-push.ensures.ok ∙ ap (λ s. c.loop-variable.slots ++ s ∷ []) c.placed.ensures)
