use Rattle.coherent_form.proofs.CitedOnce.{cited_once}
use Rattle.coherent_form.proofs.task_law.forms_are_cited_once.Goals as goal

pub returns : goal.returns
returns c = λ problem task cite a b has. cited_once problem task has cite a b
