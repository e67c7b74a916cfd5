use Rattle.std.proofs.Common.{◌<◌, arith}
use Rattle.coherent_form.proofs.Taking.{places_step}
use Rattle.coherent_form.proofs.problem_reading.places_from.Goals as goal

pub loop-symbol-preserved : goal.loop-symbol-preserved
loop-symbol-preserved c =
    let some : 0 < c.loop-symbol.symbol = let first = c.requires.named in let up = c.loop-symbol.auto.symbol in omega arith in
    places_step c.args.tables.now.symbols c.loop-symbol.symbol c.arity.result c.loop-symbol.all c.saturating_add-all.result some (c.arity.ensures.named some) c.loop-symbol.invariant c.saturating_add-all.ensures
