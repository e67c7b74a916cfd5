use Rattle.std.proofs.Common.{sym, ap, length, arith}
use Rattle.kept_context.proofs.Noting.{args_within, adds_small}
use Rattle.kept_context.proofs.Casing.{disjunct_small, disjunct_noted, list_none, none_some}
use Rattle.kept_context.proofs.case.add_disjunct.Goals as goal

pub add_facts-requires-clause-spare_facts : goal.add_facts-requires-clause-spare_facts
add_facts-requires-clause-spare_facts c =
    let fit = disjunct_small c.args.task.now c.args.store.now.signed c.args.form c.args.number c.in-Some.atoms.now c.forms-forms.ensures.right c.requires.signed (sym c.in-Some.ensures) in
    omega (arith, ap length c.as_slice.ensures, fit.1, c.requires.spare_facts)

pub add_facts-requires-clause-spare_args : goal.add_facts-requires-clause-spare_args
add_facts-requires-clause-spare_args c =
    let fit = disjunct_small c.args.task.now c.args.store.now.signed c.args.form c.args.number c.in-Some.atoms.now c.forms-forms.ensures.right c.requires.signed (sym c.in-Some.ensures) in
    rw c.as_slice.ensures (args_within c.args.store.now.signed c.args.store.now.spare_args c.in-Some.atoms.now fit.0 fit.1 c.requires.spare_args)

pub returns-in-Some-clause-noted : goal.returns-in-Some-clause-noted
returns-in-Some-clause-noted c =
    disjunct_noted c.args.task.now c.args.form c.args.number c.args.elements.now c.in-Some.atoms.now c.args.store.now c.add_facts.new.store
    (sym c.in-Some.ensures) (rw c.as_slice.ensures at c.add_facts.ensures)

pub returns-in-Some-clause-adds : goal.returns-in-Some-clause-adds
returns-in-Some-clause-adds c =
    let fit = disjunct_small c.args.task.now c.args.store.now.signed c.args.form c.args.number c.in-Some.atoms.now c.forms-forms.ensures.right c.requires.signed (sym c.in-Some.ensures) in
    adds_small c.args.store.now.signed c.args.elements.now c.in-Some.atoms.now c.args.store.now c.add_facts.new.store fit.0 fit.1 (rw c.as_slice.ensures at c.add_facts.ensures)

pub returns-in_default-clause-noted : goal.returns-in_default-clause-noted
returns-in_default-clause-noted c facts told seen =
    none_some _ facts (list_none c.args.task.now c.args.form c.args.number c.args.elements.now (sym (rw c.in_default.is at c.disjunct.ensures))) seen
