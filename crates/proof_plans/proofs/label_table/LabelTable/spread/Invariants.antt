use Rattle.std.proofs.Common.{◌≡◌, length}
use Rattle.proof_plans.proofs.label_table.LabelTable.spread.Given as goal

-- there are as many labels as at first
abbrev pub invariant-loop-place : goal.invariant-loop-place
invariant-loop-place l = l.place-end ≡ length l.self.labels.items
