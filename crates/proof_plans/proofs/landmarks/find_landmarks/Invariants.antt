use Rattle.std.proofs.Common.{ℕ, ◌≡◌}
use Rattle.vernacular_tree.specs.Contexts.{Task}
use Rattle.vernacular_tree.specs.Tasks.{IsTask}
use Rattle.vernacular_tree.specs.Witnessed.{IsContext}
use Rattle.vernacular_tree.specs.declared.context.Context.{Context}
use Rattle.proof_plans.specs.Landmarks.{AreLandmarks}
use Rattle.proof_plans.specs.Scenes.{IsScene}
use Rattle.proof_plans.proofs.landmarks.find_landmarks.Given as goal

-- every proof needs those that are there
abbrev pub invariant-loop-way : goal.invariant-loop-way
invariant-loop-way l = (constants : ℕ) (task : Task) (lent : Context) → IsTask constants task
    → IsContext task lent → IsScene task lent l.scene → lent.elements ≡ l.elements
    → AreLandmarks task lent l.landmarks.items
