use Rattle.std.proofs.Common.{◌<◌}
use Rattle.benchmarks.proofs.facts.fill.Given as goal

abbrev pub invariant-loop-n : goal.invariant-loop-n
invariant-loop-n l = 0 < l.store.signed
