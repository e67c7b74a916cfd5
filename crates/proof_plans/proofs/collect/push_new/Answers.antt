use Rattle.std.proofs.Common.{arith}
use Rattle.std.proofs.lemmas.Option.{slice_get_within}
use Rattle.proof_plans.specs.Ways.{IsSplitByNew}
use Rattle.proof_plans.proofs.Gathered.{below_more, below_all}
use Rattle.proof_plans.proofs.collect.push_new.Goals as goal

pub loop-number-preserved : goal.loop-number-preserved
loop-number-preserved c = below_more _ _ _ (IsSplitByNew c.args.forms.now) c.loop-number.number c.loop-number.invariant c.if-not-push_splitting.ensures

pub returns : goal.returns
returns c = below_all _ _ (IsSplitByNew c.args.forms.now) c.loop-number.number c.loop-number.invariant
    (λ number way w. omega (arith, slice_get_within c.args.forms.now number w.0.f w.0.f_is, c.loop-number-test.false))
