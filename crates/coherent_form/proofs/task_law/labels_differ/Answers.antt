use Rattle.coherent_form.proofs.Labelled.{labels_differ}
use Rattle.coherent_form.proofs.task_law.labels_differ.Goals as goal

pub returns : goal.returns
returns c = labels_differ
