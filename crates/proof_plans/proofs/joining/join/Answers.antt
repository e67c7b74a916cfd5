use Rattle.proof_plans.proofs.joining.join.Goals as goal

pub returns-in-Some-Some : goal.returns-in-Some-Some
returns-in-Some-Some c = c.join_roots.ensures c.args.bound.now c.args.left c.args.right c.in-Some-Some.ensures c.in-Some-Some.ensures'
