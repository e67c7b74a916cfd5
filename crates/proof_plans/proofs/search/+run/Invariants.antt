use Rattle.std.proofs.Common.{◌≡◌, ◌+◌, ◌*◌, true}
use Rattle.vernacular_tree.specs.Contexts.{Task}
use Rattle.vernacular_tree.specs.declared.context.Context.{Context}
use Rattle.proof_plans.specs.Landmarks.{AreLandmarks}
use Rattle.proof_plans.specs.Scenes.{IsScene}
use Rattle.proof_plans.proofs.Tried.{AreRuledOut}
use Rattle.proof_plans.proofs.search.+run.Given as goal

abbrev pub decreases-run : goal.decreases-run
decreases-run l = 3 * l.depth

abbrev pub decreases-take_pair : goal.decreases-take_pair
decreases-take_pair l = 3 * l.depth + 1

abbrev pub decreases-close_goal : goal.decreases-close_goal
decreases-close_goal l = 3 * l.depth + 2

abbrev pub decreases-close : goal.decreases-close
decreases-close l = 3 * l.depth + 1

-- nothing has changed but that ways are ruled out, which are those with a lower number
abbrev pub invariant-close-loop-at : goal.invariant-close-loop-at
invariant-close-loop-at l = record {
  cut : l.fn.work.cut ≡ true → l.work.cut ≡ true;
  draft : l.draft ≡ l.fn.draft;
  choices : l.work.choices.items ≡ l.initial.work.choices.items;
  ruled : (task : Task) (lent : Context) → IsScene task lent l.scene
      → AreLandmarks task lent l.landmarks
      → AreRuledOut task lent l.most l.work.cut l.fn.draft l.left l.work.choices.items l.first l.at;
}
