use Rattle.std.proofs.Common.{arith}
use Rattle.std.specs.List.{flat_map}
use Rattle.coherent_form.specs.Noted.{symbol_kept}
use Rattle.coherent_form.proofs.Counted.{counted_step, flat_map_push}
use Rattle.coherent_form.proofs.axioms.push_equality.Goals as goal

pub loop-symbol-preserved : goal.loop-symbol-preserved
loop-symbol-preserved c =
    let kept = symbol_kept c.args.tables.now c.args.seen.now in
    counted_step (flat_map kept) kept (flat_map_push kept) 0 c.loop-symbol.symbol c.loop-symbol.symbol (omega arith)
    c.push-3.new.self c.loop-symbol.axioms c.push_kept.new.axioms c.loop-symbol.invariant c.in_ok-push_kept.ensures
