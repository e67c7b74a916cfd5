use Rattle.proof_plans.proofs.Parted.{on_success}
use Rattle.proof_plans.proofs.Walked.{landmark_shown}
use Rattle.proof_plans.proofs.landmarks.is_landmark.Goals as goal

pub returns : goal.returns
returns c = on_success c.forms_hold.result c.forms_hold.ensures (λ forms constants task lent right ok is same.
    landmark_shown constants task lent c.args.scene.now c.args.set.now c.args.elements c.args.form right ok is same c.if-elements-set.false
    c.if-not-lines_hold.ensures c.if-not-are_refuted.ensures forms)
