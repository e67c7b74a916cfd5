use Rattle.vernacular_tree.specs.Contexts.{Task}
use Rattle.vernacular_tree.specs.declared.context.Context.{Context}
use Rattle.proof_plans.specs.Choices.{Begins, HasAll, NumberedBelow}
use Rattle.proof_plans.specs.Drafts.{IsReached}
use Rattle.proof_plans.specs.Scenes.{IsScene}
use Rattle.proof_plans.specs.Ways.{IsByCase}
use Rattle.proof_plans.proofs.collect.push_cases.Given as goal

-- the branch is so many splits above, and the ways by the cases below it are there
abbrev pub invariant-loop-done : goal.invariant-loop-done
invariant-loop-done l = IsReached l.draft.nodes l.done l.node l.at
    × ((task : Task) (lent : Context) → IsScene task lent l.scene
    → HasAll l.fn.choices.items l.choices.items (NumberedBelow l.done (IsByCase task lent l.atom l.draft.nodes l.node)))
    × Begins l.fn.choices.items l.choices.items
