use Rattle.std.proofs.Common.{rules, ◌≡◌, Err}
use Rattle.coherent_form.proofs.Taking.{unread_places}
use Rattle.coherent_form.proofs.problem_reading.Reading.read.Goals as goal

pub returns-in_err-self-clause-err : goal.returns-in_err-self-clause-err
returns-in_err-self-clause-err c =
    let is : c.from_residual-in_err-self.result ≡ Err c.in_err-self.field-0.0 = search rules in
    let why = c.in_err-self.ensures.err in
    unread_places c.args.self.now.tables c.forms_of.new.tables c.args.formula.now c.in_ok-forms.forms c.from_residual-in_err-self.result c.in_err-self.field-0.0 is why.0
    c.requires.allowed c.in_ok-forms.ensures.exact.ok why.1
