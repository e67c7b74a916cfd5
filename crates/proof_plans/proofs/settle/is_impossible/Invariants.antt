use Rattle.std.proofs.Common.{ℕ}
use Rattle.vernacular_tree.specs.Contexts.{Task}
use Rattle.vernacular_tree.specs.declared.context.Context.{Context}
use Rattle.proof_plans.specs.Hopes.{Hope}
use Rattle.proof_plans.specs.Places.{PlacesHold}
use Rattle.proof_plans.proofs.settle.is_impossible.Given as goal

-- the places hold in each proof that has the plan as a part
abbrev pub invariant-loop-round : goal.invariant-loop-round
invariant-loop-round l = (task : Task) (lent : Context) (n : ℕ) (h : Hope task lent n l.draft)
    → PlacesHold task lent l.draft.nodes h.values h.fires h.indices l.places.items
