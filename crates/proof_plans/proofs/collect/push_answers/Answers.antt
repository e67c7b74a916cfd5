use Rattle.std.proofs.Common.{◌≡◌, ◌<◌, arith}
use Rattle.proof_plans.specs.declared.choice.Choice.TheVariants as choice
use Rattle.proof_plans.proofs.Gathered.{all_also, all_pushed, below_more}
use Rattle.proof_plans.proofs.collect.push_answers.Goals as goal

pub loop-disjunct-preserved : goal.loop-disjunct-preserved
loop-disjunct-preserved c =
    below_more _ _ _ (λ number way. way ≡ choice.Answer number) c.loop-disjunct.disjunct c.loop-disjunct.invariant (all_pushed _ _ _ c.if-not-push_if_room.ensures)

pub returns : goal.returns
returns c = all_also _ _ _ _ c.loop-disjunct.invariant (λ way w. (w.0, (let low : w.0 < c.args.count = w.1 in omega (arith, low, c.loop-disjunct-test.false)), w.2))
