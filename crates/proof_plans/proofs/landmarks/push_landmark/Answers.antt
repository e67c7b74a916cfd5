use Rattle.std.proofs.Common.{◌≢◌, ℕ, sym, subst}
use Rattle.std.specs.List.{AllByRecursion}
use Rattle.proof_plans.specs.Landmarks.{AreLandmarks}
use Rattle.proof_plans.proofs.Missing.{landmark_more}
use Rattle.proof_plans.proofs.Parted.{on_success}
use Rattle.proof_plans.proofs.landmarks.push_landmark.Goals as goal

pub returns : goal.returns
returns c = on_success c.push_if_room.result c.push_if_room.ensures (λ pushed constants task lent right ok is same are.
    subst (AreLandmarks task lent) (sym pushed)
    (landmark_more task lent c.args.landmarks.now.items c.args.form are
    (subst (AllByRecursion (λ (other : ℕ). other ≢ c.args.form)) c.as_slice.ensures.value c.if-not-is_further.ensures)
    (c.if-not-is_landmark.ensures constants task lent right ok is same)))
