use Rattle.std.proofs.Common.{[], sym}
use Rattle.kept_context.proofs.Noting.{args_within, adds_small}
use Rattle.kept_context.proofs.Casing.{case_small, lent_case_noted}
use Rattle.kept_context.proofs.case.add_lent_case.Goals as goal

pub add_facts-requires-clause-spare_args : goal.add_facts-requires-clause-spare_args
add_facts-requires-clause-spare_args c =
    let fit = case_small c.args.store.now.signed c.args.line.now c.args.case c.in-Some.facts.now (sym c.in-Some.ensures) c.requires.small in
    rw c.as_slice.ensures (args_within c.args.store.now.signed c.args.store.now.spare_args c.in-Some.facts.now fit.small fit.few c.requires.spare_args)

pub returns-in-Some-clause-noted : goal.returns-in-Some-clause-noted
returns-in-Some-clause-noted c =
    lent_case_noted c.args.store.now.signed c.args.line.now c.args.case c.in-Some.facts.now c.args.store.now c.add_facts.new.store
    (sym c.in-Some.ensures) c.requires.small (rw c.as_slice.ensures at c.add_facts.ensures)

pub returns-in-Some-clause-adds : goal.returns-in-Some-clause-adds
returns-in-Some-clause-adds c =
    let fit = case_small c.args.store.now.signed c.args.line.now c.args.case c.in-Some.facts.now (sym c.in-Some.ensures) c.requires.small in
    adds_small c.args.store.now.signed [] c.in-Some.facts.now c.args.store.now c.add_facts.new.store fit.small fit.few (rw c.as_slice.ensures at c.add_facts.ensures)
