use Rattle.std.proofs.Common.{◌∙◌, sym, arith}
use Rattle.proof_plans.proofs.Missing.{counting_less, counting_more, counting_all}
use Rattle.proof_plans.proofs.landmarks.count_missing.Goals as goal

pub loop-number-preserved-then-not-is_missing : goal.loop-number-preserved-then-not-is_missing
loop-number-preserved-then-not-is_missing c = record {
  few = let few = c.loop-number.invariant.few in omega arith;
  counting = λ task lent are. counting_less task lent c.args.steps.now c.args.landmarks.now c.loop-number.number c.loop-number.missing c.in-Some.form
      (sym c.item_at.ensures ∙ c.in-Some.is) (c.loop-number.invariant.counting task lent are);
}

pub loop-number-preserved : goal.loop-number-preserved
loop-number-preserved c = record {
  few = let few = c.loop-number.invariant.few in omega arith;
  counting = λ task lent are. counting_more task lent c.args.steps.now c.args.landmarks.now c.loop-number.number c.loop-number.missing c.in-Some.form
      (sym c.item_at.ensures ∙ c.in-Some.is) (c.loop-number.invariant.counting task lent are) c.if-not-is_missing.ensures;
}

pub returns : goal.returns
returns c = λ task lent are.
    counting_all task lent c.args.steps.now c.args.landmarks.now c.loop-number.number c.loop-number.missing c.loop-number-test.false (c.loop-number.invariant.counting task lent are)
