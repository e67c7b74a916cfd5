use Rattle.std.proofs.Common.{ℕ, ◌≡◌}
use Rattle.vernacular_tree.specs.Contexts.{Task}
use Rattle.vernacular_tree.specs.Tasks.{IsTask}
use Rattle.vernacular_tree.specs.Witnessed.{IsContext}
use Rattle.vernacular_tree.specs.declared.context.Context.{Context}
use Rattle.proof_plans.specs.Landmarks.{AreLandmarks}
use Rattle.proof_plans.specs.Scenes.{IsScene}
use Rattle.proof_plans.proofs.landmarks.push_landmarks.Given as goal

-- every proof needs those that are there
abbrev pub invariant-loop-form : goal.invariant-loop-form
invariant-loop-form l = (constants : ℕ) (task : Task) (lent : Context) → IsTask constants task
    → IsContext task lent → IsScene task lent l.scene → lent.elements ≡ l.elements
    → AreLandmarks task lent l.fn.landmarks.items → AreLandmarks task lent l.landmarks.items
