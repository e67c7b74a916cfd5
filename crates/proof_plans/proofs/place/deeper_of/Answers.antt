use Rattle.std.proofs.Common.{sym, ◌∙◌}
use Rattle.proof_plans.proofs.Placed.{not_apart, told_false}
use Rattle.proof_plans.proofs.place.deeper_of.Goals as goal

pub returns-then-eq-4 : goal.returns-then-eq-4
returns-then-eq-4 c = λ task lent values own one other.
    not_apart task lent c.args.nodes.now values c.args.one c.args.other own c.if-one-eq0.false c.if-other-eq0.false
    (λ a b. c.leads_to-down.ensures (told_false _ (sym c.eq-3.ensures ∙ c.if-eq-3.true)) task lent a b)
    (λ b a. c.leads_to-up.ensures (told_false _ (sym c.eq-then-eq-3.ensures ∙ c.if-eq-4.true)) task lent b a) one other
