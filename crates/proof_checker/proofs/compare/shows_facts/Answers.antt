use Rattle.std.proofs.Common.{arith}
use Rattle.proof_text.specs.Branches.{named_atom}
use Rattle.proof_checker.specs.Kept.{atom_seen}
use Rattle.proof_checker.proofs.Compared.{differ_seen, failed, decides_no}
use Rattle.proof_checker.proofs.Named.{item_read}
use Rattle.proof_checker.proofs.compare.shows_facts.Goals as goal

pub returns-then-not-shows_fact : goal.returns-then-not-shows_fact
returns-then-not-shows_fact c = decides_no _ (differ_seen (named_atom c.args.tables.now c.args.names.now) atom_seen c.args.atoms.now c.args.facts.now c.loop-at.at
    c.index-atoms-at.result c.index-facts-at.result (item_read c.args.atoms.now c.loop-at.at c.index-atoms-at.result c.loop-at-test.true c.index-atoms-at.is)
    (item_read c.args.facts.now c.loop-at.at c.index-facts-at.result (omega (arith, c.loop-at-test.true, c.if-atoms-facts.false)) c.index-facts-at.is)
    (failed c.shows_fact.result _ c.shows_fact.ensures c.if-not-shows_fact.true))
