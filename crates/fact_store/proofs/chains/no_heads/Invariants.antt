use Rattle.std.proofs.Common.{◌≡◌, ◌≤◌, None, replicate, vec_capacity}
use Rattle.fact_store.proofs.chains.no_heads.Given as goal

abbrev pub invariant-loop-done : goal.invariant-loop-done
invariant-loop-done l = record {
  filled : l.heads.items ≡ replicate l.done None;
  room : l.width ≤ vec_capacity l.heads;
}
