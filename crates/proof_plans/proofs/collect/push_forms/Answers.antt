use Rattle.std.proofs.Common.{arith}
use Rattle.std.proofs.lemmas.Option.{slice_get_within}
use Rattle.proof_plans.specs.Ways.{IsByNew}
use Rattle.proof_plans.proofs.Gathered.{below_more, below_all}
use Rattle.proof_plans.proofs.collect.push_forms.Goals as goal

pub loop-number-preserved : goal.loop-number-preserved
loop-number-preserved c = below_more _ _ _ (IsByNew c.args.atom.now c.args.forms.now) c.loop-number.number c.loop-number.invariant c.if-not-push_form.ensures

pub returns : goal.returns
returns c = below_all _ _ (IsByNew c.args.atom.now c.args.forms.now) c.loop-number.number c.loop-number.invariant
    (λ number way w. omega (arith, slice_get_within c.args.forms.now number w.f w.f_is, c.loop-number-test.false))
