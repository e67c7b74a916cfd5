use Rattle.coherent_form.proofs.NameLists.{entered_named, entered_there}
use Rattle.coherent_form.proofs.variables.enter.Goals as goal

pub returns-clause-named : goal.returns-clause-named
returns-clause-named c = entered_named c.number_of.result c.args.names.now.keys c.number_of.new.names.keys c.args.name.now c.number_of.ensures.number c.number_of.ensures.ok

pub returns-clause-there : goal.returns-clause-there
returns-clause-there c = entered_there c.number_of.result c.args.names.now.keys c.number_of.new.names.keys c.args.name.now c.number_of.ensures.number c.number_of.ensures.ok
