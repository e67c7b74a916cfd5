use Rattle.std.proofs.Common.{map, arith}
use Rattle.proof_text.specs.Branches.{named_facts}
use Rattle.proof_checker.specs.Kept.{atom_seen}
use Rattle.proof_checker.proofs.Compared.{differ_seen, failed, decides_no}
use Rattle.proof_checker.proofs.Named.{item_read}
use Rattle.proof_checker.proofs.compare.shows_lists.Goals as goal

pub returns-then-not-shows_facts : goal.returns-then-not-shows_facts
returns-then-not-shows_facts c = decides_no _ (differ_seen (named_facts c.args.tables.now c.args.names.now) (map atom_seen) c.args.shown.now c.args.lists.now c.loop-at.at
    c.index-shown-at.result c.index-lists-at.result (item_read c.args.shown.now c.loop-at.at c.index-shown-at.result c.loop-at-test.true c.index-shown-at.is)
    (item_read c.args.lists.now c.loop-at.at c.index-lists-at.result (omega (arith, c.loop-at-test.true, c.if-shown-lists.false)) c.index-lists-at.is)
    (failed c.shows_facts.result _ (rw (c.as_slice.ensures, c.as_slice-in-loop-at.ensures) at c.shows_facts.ensures) c.if-not-shows_facts.true))
