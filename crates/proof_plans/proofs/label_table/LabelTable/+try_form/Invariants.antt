use Rattle.proof_plans.proofs.label_table.LabelTable.+try_form.Given as goal

abbrev pub decreases-try_form : goal.decreases-try_form
decreases-try_form l = l.left
