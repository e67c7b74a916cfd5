use Rattle.std.proofs.Common.{◌+◌, ◌∷◌, [], map, arith}
use Rattle.coherent_form.specs.declared.source.BuiltIn.TheVariants.{Sub}
use Rattle.coherent_form.proofs.Counted.{counted_step, map_more}
use Rattle.coherent_form.proofs.axioms.push_places.Goals as goal

pub loop-place-preserved : goal.loop-place-preserved
loop-place-preserved c =
    counted_step (map (Sub c.args.positive c.args.symbol)) (λ place. Sub c.args.positive c.args.symbol place ∷ []) (map_more (Sub c.args.positive c.args.symbol))
    1 c.loop-place.place (c.loop-place.place + 1) (omega arith)
    c.args.axioms.now c.loop-place.axioms c.push.new.self c.loop-place.invariant c.in_ok-push.ensures.ok
