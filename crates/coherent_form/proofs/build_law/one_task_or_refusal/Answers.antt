use Rattle.coherent_form.proofs.OneTask.{one_task, one_task_refusal, task_not_refused}
use Rattle.coherent_form.proofs.build_law.one_task_or_refusal.Goals as goal

pub returns-clause-task : goal.returns-clause-task
returns-clause-task c = one_task

pub returns-clause-refusal : goal.returns-clause-refusal
returns-clause-refusal c = one_task_refusal

pub returns-clause-never_both : goal.returns-clause-never_both
returns-clause-never_both c = task_not_refused
