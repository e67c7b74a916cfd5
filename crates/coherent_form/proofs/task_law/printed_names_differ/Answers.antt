use Rattle.coherent_form.proofs.Printed.{element_names_differ}
use Rattle.coherent_form.proofs.task_law.printed_names_differ.Goals as goal

pub returns : goal.returns
returns c = element_names_differ
