use Rattle.proof_plans.proofs.finish.may_stand.Goals as goal

pub returns-clause-hopeless : goal.returns-clause-hopeless
returns-clause-hopeless c = λ task lent n is h. c.if-not-is_impossible.ensures task lent n (c.if-not-add_creators.ensures.hope task lent n is h)
