use Rattle.std.proofs.Common.{List}
use Rattle.vernacular_tree.specs.Contexts.{Task}
use Rattle.vernacular_tree.specs.declared.context.Context.{Context}
use Rattle.proof_plans.specs.Runs.{Case}
use Rattle.proof_plans.specs.Drafts.{IsBranch}
use Rattle.proof_plans.proofs.Climbs.{Reached}
use Rattle.proof_plans.proofs.word.depth.Given as goal

-- the branch that is so many splits above
abbrev pub invariant-loop-done : goal.invariant-loop-done
invariant-loop-done l = (task : Task) (lent : Context) (branch : List Case) → IsBranch task lent l.nodes l.node branch
    → Reached task lent l.nodes l.node branch l.done l.at
