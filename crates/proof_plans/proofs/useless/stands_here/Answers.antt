use Rattle.proof_plans.proofs.Novel.{case_at}
use Rattle.proof_plans.proofs.useless.stands_here.Goals as goal

pub returns-then-is_in_case : goal.returns-then-is_in_case
returns-then-is_in_case c =
    case_at c.args.scene.now c.args.draft.now c.args.read.now.base c.args.read.now.atom.now c.args.node c.if-is_in_case.ensures
