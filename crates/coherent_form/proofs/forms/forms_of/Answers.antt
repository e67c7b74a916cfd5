use Rattle.std.proofs.Common.{rules, ◌≡◌, Err}
use Rattle.coherent_form.proofs.OneReading.{exact_refused_as}
use Rattle.coherent_form.proofs.forms.forms_of.Goals as goal

pub returns-in_err-check-clause-exact : goal.returns-in_err-check-clause-exact
returns-in_err-check-clause-exact c =
    let is : c.from_residual.result ≡ Err c.in_err-check.field-0.0 = search rules in
    exact_refused_as c.args.tables.now c.args.tables.now c.args.formula.now c.from_residual.result c.in_err-check.field-0.0 is c.in_err-check.ensures.err
