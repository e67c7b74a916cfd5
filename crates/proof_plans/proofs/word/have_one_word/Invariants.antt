use Rattle.std.proofs.Common.{List, ◌≡◌}
use Rattle.vernacular_tree.specs.Contexts.{Task}
use Rattle.vernacular_tree.specs.declared.context.Context.{Context}
use Rattle.proof_plans.specs.Runs.{Case}
use Rattle.proof_plans.specs.Moves.{word_of}
use Rattle.proof_plans.specs.Drafts.{IsBranch}
use Rattle.proof_plans.proofs.word.have_one_word.Given as goal

-- where the branches have one word, so have those that were reached
abbrev pub invariant-loop-round : goal.invariant-loop-round
invariant-loop-round l = (task : Task) (lent : Context) (one other : List Case) → IsBranch task lent l.nodes l.left one → IsBranch task lent l.nodes l.right other
    → word_of one ≡ word_of other
    → (up_one up_other : List Case) × IsBranch task lent l.nodes l.a up_one × IsBranch task lent l.nodes l.b up_other × (word_of up_one ≡ word_of up_other)
