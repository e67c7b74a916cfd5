use Rattle.proof_plans.proofs.reach.+cases_reached.Given as goal

abbrev pub decreases-cases_reached : goal.decreases-cases_reached
decreases-cases_reached l = l.fuel
