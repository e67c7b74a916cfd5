use Rattle.std.proofs.Common.{ℕ, List}
use Rattle.std.specs.List.{AllByRecursion}
use Rattle.vernacular_tree.specs.Contexts.{Task}
use Rattle.vernacular_tree.specs.declared.context.Context.{Context}
use Rattle.proof_plans.specs.Runs.{Fire}
use Rattle.proof_plans.specs.Plans.{Tie}
use Rattle.proof_plans.specs.Embeds.{TieHolds}
use Rattle.proof_plans.specs.Drafts.{Both, IsTie}
use Rattle.proof_plans.specs.Places.{PlacesHold, IsSettled}
use Rattle.proof_plans.proofs.settle.settle_once.Given as goal

-- places that held are settled so far
abbrev pub invariant-loop-number : goal.invariant-loop-number
invariant-loop-number l = (task : Task) (lent : Context) (values : List ℕ) (fires : List Fire) (indices : List ℕ) (holding : List Tie)
    → Both (IsTie task lent l.nodes) l.ties holding → AllByRecursion (TieHolds fires values indices) holding
    → PlacesHold task lent l.nodes values fires indices l.fn.places.items → IsSettled task lent l.nodes values fires indices l.places.items l.settled
