use Rattle.proof_plans.proofs.Signs.{sign_lacks}
use Rattle.proof_plans.proofs.reach.lacks_sign.Goals as goal

pub returns : goal.returns
returns c = λ d.
    sign_lacks c.args.row.now c.args.scene.now d c.args.goal c.in-Some.read.atom.now c.in-Some.read.base
    (λ constants task lent is right here kept. c.in-Some.ensures constants task lent d.nodes is right here kept)
    c.if-is_reached.ensures.out
