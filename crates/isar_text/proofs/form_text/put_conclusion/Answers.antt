use Rattle.isar_text.proofs.FormsThere.{disjuncts_there}
use Rattle.isar_text.proofs.form_text.put_conclusion.Goals as goal

pub disjunct_texts-requires : goal.disjunct_texts-requires
disjunct_texts-requires c = disjuncts_there c.args.task.now.tables c.args.form.now c.requires c.as_slice.result.now c.as_slice.ensures
