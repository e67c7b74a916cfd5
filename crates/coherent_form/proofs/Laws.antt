-- Laws for callers: of readings and of tasks.
pub use Rattle.coherent_form.proofs.Arities.{reads_arities}
pub use Rattle.coherent_form.proofs.Below.{forms_have}
pub use Rattle.coherent_form.proofs.CitedOnce.{cited_once}
pub use Rattle.coherent_form.proofs.Readings.{names_there, tables_extend, forms_formed, forms_same}
pub use Rattle.coherent_form.proofs.OneReading.{reads_tables, reads_forms, refused_one, reads_refused}
pub use Rattle.coherent_form.proofs.OneTask.{one_task, one_task_refusal, task_not_refused}
