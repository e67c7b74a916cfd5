use Rattle.std.proofs.Common.{arith}
use Rattle.kept_context.proofs.Noting.{none_given, one_given, many_given, first_small, args_within, adds_small}
use Rattle.kept_context.proofs.line.note_lists.Goals as goal

pub add_facts-requires-clause-spare_args : goal.add_facts-requires-clause-spare_args
add_facts-requires-clause-spare_args c =
    let fit = first_small c.args.store.now.signed c.args.lists.now c.in-Some.facts.now c.in-Some.ensures.value c.requires.small c.requires.few in
    rw c.as_slice.ensures (args_within c.args.store.now.signed c.args.store.now.spare_args c.in-Some.facts.now fit.0 fit.1 c.requires.spare_args)

pub returns-then-lists-gt1-clause-noted : goal.returns-then-lists-gt1-clause-noted
returns-then-lists-gt1-clause-noted c = many_given c.args.elements.now c.args.lists.now c.args.store.now c.args.falsum.now (omega arith)

pub returns-in-Some-clause-noted : goal.returns-in-Some-clause-noted
returns-in-Some-clause-noted c =
    one_given c.args.elements.now c.args.lists.now c.in-Some.facts.now c.args.store.now c.add_facts.new.store c.args.falsum.now
    (omega arith) c.in-Some.ensures.value (rw c.as_slice.ensures at c.add_facts.ensures)

pub returns-in-Some-clause-adds : goal.returns-in-Some-clause-adds
returns-in-Some-clause-adds c =
    let fit = first_small c.args.store.now.signed c.args.lists.now c.in-Some.facts.now c.in-Some.ensures.value c.requires.small c.requires.few in
    adds_small c.args.store.now.signed c.args.elements.now c.in-Some.facts.now c.args.store.now c.add_facts.new.store fit.0 fit.1 (rw c.as_slice.ensures at c.add_facts.ensures)

pub returns-in-None-clause-noted : goal.returns-in-None-clause-noted
returns-in-None-clause-noted c = none_given c.args.elements.now c.args.lists.now c.args.store.now c.args.falsum.now c.in-None.ensures.value
