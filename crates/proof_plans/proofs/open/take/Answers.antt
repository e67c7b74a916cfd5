use Rattle.proof_plans.specs.declared.open.Open.TheVariants.{Goal, Branch}
use Rattle.proof_plans.proofs.Tried.{takes_hope}
use Rattle.proof_plans.proofs.open.take.Goals as goal

pub returns-in-Goal-clause-hope : goal.returns-in-Goal-clause-hope
returns-in-Goal-clause-hope c =
    takes_hope c.take_goal.result c.args.scene.now c.args.draft.now c.take_goal.new.draft c.args.left (Goal c.in-Goal.goal) c.args.choice c.in-Goal.is c.take_goal.ensures.hope

pub returns-in-Branch-clause-hope : goal.returns-in-Branch-clause-hope
returns-in-Branch-clause-hope c =
    takes_hope c.take_branch.result c.args.scene.now c.args.draft.now c.take_branch.new.draft c.args.left (Branch c.in-Branch.node) c.args.choice c.in-Branch.is c.take_branch.ensures.hope
