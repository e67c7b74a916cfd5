use Rattle.std.proofs.Common.{List, subst, arith}
use Rattle.proof_plans.specs.declared.draft.PlanStep.{PlanStep}
use Rattle.proof_plans.specs.Landmarks.{HasMissing}
use Rattle.proof_plans.proofs.Missing.{hope_least}
use Rattle.proof_plans.proofs.landmarks.least_cost.Goals as goal

pub returns : goal.returns
returns c = λ task lent n are h.
    let least = hope_least task lent n c.args.draft.now c.count_missing.result
    (subst (λ (steps : List PlanStep). HasMissing task lent steps c.count_missing.result) c.steps.ensures (c.count_missing.ensures task lent are)) h in
    omega (arith, least, c.in_ok-cost.ensures.1, c.in_ok-own.ensures)
