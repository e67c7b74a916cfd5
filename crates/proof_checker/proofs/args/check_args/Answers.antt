use Rattle.std.proofs.Common.{ap, sym, ◌∙◌, subst}
use Rattle.std.proofs.lemmas.Result.{IfErr-weaker}
use Rattle.proof_text.specs.declared.body.ArgsText.TheVariants.{Listed, Named}
use Rattle.proof_checker.specs.Checks.{Nothing}
use Rattle.proof_checker.specs.Faults.{ArgsFault}
use Rattle.proof_checker.specs.Running.{HaltsBy}
use Rattle.proof_checker.proofs.args.check_args.Goals as goal

pub returns-in-Listed-clause-err : goal.returns-in-Listed-clause-err
returns-in-Listed-clause-err c = IfErr-weaker c.check_listed.result _ _ (λ halt h variables are.
    subst (λ args. HaltsBy (ArgsFault c.args.trail.now.names c.args.form.now variables args Nothing) halt)
    (ap Listed c.as_slice.ensures ∙ sym c.in-Listed.is) (h variables)) c.check_listed.ensures.err

pub returns-in-Named-clause-err : goal.returns-in-Named-clause-err
returns-in-Named-clause-err c = IfErr-weaker c.check_named.result _ _ (λ halt h variables are.
    subst (λ args. HaltsBy (ArgsFault c.args.trail.now.names c.args.form.now variables args Nothing) halt)
    (ap Named c.as_slice-in-Named.ensures ∙ sym c.in-Named.is) (h variables are)) c.check_named.ensures.err
