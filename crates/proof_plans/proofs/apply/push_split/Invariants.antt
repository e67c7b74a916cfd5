use Rattle.std.proofs.Common.{◌≡◌, ◌<◌, length}
use Rattle.proof_plans.specs.Splits.{with_children}
use Rattle.proof_plans.proofs.apply.push_split.Given as goal

-- the first branches of the split were pushed
abbrev pub invariant-loop-case : goal.invariant-loop-case
invariant-loop-case l = record {
  rooted : 0 < length l.fn.draft.nodes;
  pushed : l.draft ≡ with_children l.of l.node l.case l.fn.draft;
}
