use Rattle.std.proofs.Common.{◌≡◌}
use Rattle.proof_plans.specs.declared.choice.Choice.TheVariants as choice
use Rattle.proof_plans.specs.Choices.{HasAll, NumberedBelow}
use Rattle.proof_plans.proofs.collect.push_answers.Given as goal

-- the first ways are there
abbrev pub invariant-loop-disjunct : goal.invariant-loop-disjunct
invariant-loop-disjunct l = HasAll l.fn.choices.items l.choices.items (NumberedBelow l.disjunct (λ number way. way ≡ choice.Answer number))
