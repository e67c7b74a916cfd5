use Rattle.std.proofs.lemmas.Bool.{OnTrue_at, OnTrue_from}
use Rattle.proof_plans.specs.declared.open.Open.TheVariants.{Goal, Branch}
use Rattle.proof_plans.proofs.Tried.{AllWays, ways_of}
use Rattle.proof_plans.proofs.open.gather.Goals as goal

pub returns-in-Goal-clause-all : goal.returns-in-Goal-clause-all
returns-in-Goal-clause-all c =
    ways_of c.goal_choices.result c.args.scene.now c.args.choices.now.items c.goal_choices.new.choices.items c.args.draft.now c.args.left (Goal c.in-Goal.goal) c.in-Goal.is c.goal_choices.ensures.all

pub returns-in-Branch-clause-all : goal.returns-in-Branch-clause-all
returns-in-Branch-clause-all c =
    ways_of c.branch_choices.result c.args.scene.now c.args.choices.now.items c.branch_choices.new.choices.items c.args.draft.now c.args.left (Branch c.in-Branch.field-0) c.in-Branch.is
    (OnTrue_from c.branch_choices.result (AllWays c.args.scene.now c.args.choices.now.items c.branch_choices.new.choices.items c.args.draft.now (Branch c.in-Branch.field-0))
    (λ yes constants task lent n right ok is. OnTrue_at yes c.branch_choices.ensures.all task lent n c.in-Branch.field-0 is))
