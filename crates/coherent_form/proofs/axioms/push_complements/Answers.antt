use Rattle.std.proofs.Common.{arith}
use Rattle.std.specs.List.{flat_map}
use Rattle.coherent_form.specs.Noted.{complement_axioms}
use Rattle.coherent_form.proofs.Counted.{counted_step, flat_map_push}
use Rattle.coherent_form.proofs.axioms.push_complements.Goals as goal

pub loop-symbol-preserved : goal.loop-symbol-preserved
loop-symbol-preserved c =
    let more = complement_axioms c.args.tables.now c.args.seen.now in
    counted_step (flat_map more) more (flat_map_push more) 0 c.loop-symbol.symbol c.loop-symbol.symbol (omega arith)
    c.args.axioms.now c.loop-symbol.axioms c.push_complement.new.axioms c.loop-symbol.invariant c.in_ok-push_complement.ensures
