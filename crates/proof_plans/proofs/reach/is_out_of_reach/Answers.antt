use Rattle.proof_plans.proofs.Parted.{on_success}
use Rattle.proof_plans.proofs.Signs.{out_of_reach}
use Rattle.proof_plans.proofs.reach.is_out_of_reach.Goals as goal

pub returns : goal.returns
returns c = on_success c.cases_reached.result c.cases_reached.ensures (λ cases.
    out_of_reach c.args.row.now c.args.scene.now c.args.draft.now c.args.goal c.if-not-is_unmet.ensures
    c.if-not-lines_reached.ensures c.if-not-all_kept.ensures cases)
