use Rattle.std.proofs.Common.{sym, ◌∙◌, subst}
use Rattle.proof_checker.specs.Faults.{ArgsFault, InstanceFault, StepFault}
use Rattle.proof_checker.specs.Checks.{Nothing}
use Rattle.proof_checker.specs.Kept.{branch_of}
use Rattle.proof_checker.specs.Running.{HaltsBy}
use Rattle.proof_checker.proofs.Stepped.{handed_on, halts_so, form_here, form_fits, variables_here, args_more, args_passed, step_refused, step_is}
use Rattle.proof_checker.proofs.step.check_step.Goals as goal

pub returns-in_err-args-clause-err : goal.returns-in_err-args-clause-err
returns-in_err-args-clause-err c =
    let task = c.args.task.now in
    let old = c.args.trail.now in
    let form = c.index-as_slice-number.result in
    let at = form_here task c.args.text.now.cite c.in-Some.number c.as_slice.result.now form c.forms.ensures.right c.in-Some.ensures.found
    (c.as_slice.ensures ∙ c.forms.ensures.value) c.index-as_slice-number.is in
    let variables = variables_here task c.in-Some.number form c.forms.ensures.right at in
    let halts = c.in_err-args.ensures.err variables.0 variables.1 in
    let refused = halts_so (ArgsFault old.names form variables.0 c.args.text.now.args Nothing) (StepFault task (branch_of old) c.args.text.now)
    (λ reason told. step_refused task old c.args.text.now c.in-Some.number form variables.0 reason c.in-Some.ensures.found variables.1
    (args_more old.names variables.0 form c.args.text.now.args _ reason told)) c.in_err-args.field-0.0 halts in
    handed_on c.from_residual.result _ _ (λ halt same. subst (HaltsBy (StepFault task (branch_of old) c.args.text.now)) (sym same) refused) c.from_residual.ensures.1

pub apply-requires-clause-fits : goal.apply-requires-clause-fits
apply-requires-clause-fits c =
    let task = c.args.task.now in
    let form = c.index-as_slice-number.result in
    form_fits task c.in-Some.number form c.forms.ensures.right (form_here task c.args.text.now.cite c.in-Some.number c.as_slice.result.now form c.forms.ensures.right
    c.in-Some.ensures.found (c.as_slice.ensures ∙ c.forms.ensures.value) c.index-as_slice-number.is)

pub returns-in_err-apply-clause-err : goal.returns-in_err-apply-clause-err
returns-in_err-apply-clause-err c =
    let task = c.args.task.now in
    let old = c.args.trail.now in
    let form = c.index-as_slice-number.result in
    let text = c.args.text.now in
    let args = c.in_ok-args.args in
    let at = form_here task text.cite c.in-Some.number c.as_slice.result.now form c.forms.ensures.right c.in-Some.ensures.found
    (c.as_slice.ensures ∙ c.forms.ensures.value) c.index-as_slice-number.is in
    let variables = variables_here task c.in-Some.number form c.forms.ensures.right at in
    let stand = c.in_ok-args.ensures.ok variables.0 variables.1 in
    let halts = rw c.as_slice-2.ensures at c.in_err-apply.ensures.err in
    let refused = halts_so (InstanceFault task (branch_of old) text form args) (StepFault task (branch_of old) text)
    (λ reason told. step_refused task old text c.in-Some.number form variables.0 reason c.in-Some.ensures.found variables.1
    (args_passed old.names variables.0 form text.args args _ reason stand.0 stand.1 (args, stand.0, told))) c.in_err-apply.field-0.0 halts in
    handed_on c.from_residual-in_err-apply.result _ _ (λ halt same. subst (HaltsBy (StepFault task (branch_of old) text)) (sym same) refused)
    c.from_residual-in_err-apply.ensures.1

pub returns-clause-ok : goal.returns-clause-ok
returns-clause-ok c =
    let task = c.args.task.now in
    let old = c.args.trail.now in
    let form = c.index-as_slice-number.result in
    let text = c.args.text.now in
    let args = c.in_ok-args.args in
    let at = form_here task text.cite c.in-Some.number c.as_slice.result.now form c.forms.ensures.right c.in-Some.ensures.found
    (c.as_slice.ensures ∙ c.forms.ensures.value) c.index-as_slice-number.is in
    let variables = variables_here task c.in-Some.number form c.forms.ensures.right at in
    let stand = c.in_ok-args.ensures.ok variables.0 variables.1 in
    step_is task text old c.apply.new.trail c.in-Some.number form variables.0 args c.in-Some.ensures.found variables.1 stand.0 stand.1
    (rw c.as_slice-2.ensures at c.in_ok-apply.ensures.premises) (rw c.as_slice-2.ensures at c.in_ok-apply.ensures.ok)
