use Rattle.std.proofs.Common.{◌≤◌}
use Rattle.vernacular_tree.specs.Contexts.{Task}
use Rattle.vernacular_tree.specs.declared.context.Context.{Context}
use Rattle.proof_plans.specs.Landmarks.{AreLandmarks}
use Rattle.proof_plans.proofs.Missing.{Counting}
use Rattle.proof_plans.proofs.landmarks.count_missing.Given as goal

-- the first of them are counted
abbrev pub invariant-loop-number : goal.invariant-loop-number
invariant-loop-number l = record {
  few : l.missing ≤ l.number;
  counting : (task : Task) (lent : Context) → AreLandmarks task lent l.landmarks
      → Counting task lent l.steps l.landmarks l.number l.missing;
}
