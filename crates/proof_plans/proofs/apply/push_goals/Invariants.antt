use Rattle.std.proofs.Common.{◌≡◌, ◌++◌}
use Rattle.proof_plans.specs.Drafts.{goals_from}
use Rattle.proof_plans.proofs.apply.push_goals.Given as goal

-- the first goals were pushed
abbrev pub invariant-loop-number : goal.invariant-loop-number
invariant-loop-number l = l.draft ≡ record l.fn.draft { goals = l.fn.draft.goals ++ goals_from l.of l.user l.node 0 l.number }
