use Rattle.std.proofs.Common.{sym, subst}
use Rattle.proof_plans.specs.declared.draft.PlanTie as PlanTie
use Rattle.proof_plans.specs.Places.{Follows}
use Rattle.proof_plans.proofs.place.after_tie.Goals as goal

pub returns-in-Before : goal.returns-in-Before
returns-in-Before c = λ task lent values fires indices.
    subst (λ (t : PlanTie.PlanTie). Follows task lent c.args.nodes.now values fires indices c.args.places.now t c.after_before.result) (sym c.in-Before.is)
    (c.after_before.ensures task lent values fires indices)
