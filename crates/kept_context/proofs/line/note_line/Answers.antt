use Rattle.kept_context.proofs.Noting.{lent_facts_noted, lent_cases_noted, lent_falsum_noted}
use Rattle.kept_context.proofs.line.note_line.Goals as goal

pub returns-in-Facts-clause-noted : goal.returns-in-Facts-clause-noted
returns-in-Facts-clause-noted c =
    lent_facts_noted c.args.store.now.signed c.args.line.now c.in-Facts.facts c.args.store.now c.add_facts.new.store c.args.falsum.now c.in-Facts.is c.requires.small
    (rw c.as_slice.ensures at c.add_facts.ensures)

pub returns-in-Cases-clause-noted : goal.returns-in-Cases-clause-noted
returns-in-Cases-clause-noted c = lent_cases_noted c.args.line.now _ c.args.store.now c.args.falsum.now c.in-Cases.is

pub returns-in-Falsum-clause-noted : goal.returns-in-Falsum-clause-noted
returns-in-Falsum-clause-noted c = lent_falsum_noted c.args.line.now c.args.store.now c.args.falsum.now c.in-Falsum.is
