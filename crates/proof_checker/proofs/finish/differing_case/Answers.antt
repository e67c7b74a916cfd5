use Rattle.proof_checker.specs.Faults.{CaseShows}
use Rattle.proof_checker.specs.Kept.{branch_of}
use Rattle.proof_checker.proofs.Compared.{failed}
use Rattle.proof_checker.proofs.Ended.{pair_at, pair_fails, pairs_pass, shown_pairs}
use Rattle.proof_checker.proofs.Ordered.{behind_next}
use Rattle.proof_checker.proofs.finish.differing_case.Goals as goal

pub returns-then-not-shows_case : goal.returns-then-not-shows_case
returns-then-not-shows_case c =
    let told = rw (c.tables.ensures, c.names.ensures, c.as_slice.ensures) at c.shows_case.ensures in
    pair_fails (λ front case. CaseShows c.args.task.now (branch_of c.args.trail.now) case) (shown_pairs c.args.cases.now c.args.lists.now) c.loop-at.at _
    (pair_at c.args.cases.now c.args.lists.now c.loop-at.at c.index-cases-at.result c.index-lists-at.result c.loop-at-test.true c.requires.as_many
    c.index-cases-at.is c.index-lists-at.is) c.loop-at.invariant (failed c.shows_case.result _ told c.if-not-shows_case.true)

pub loop-at-preserved : goal.loop-at-preserved
loop-at-preserved c =
    let told = rw (c.tables.ensures, c.names.ensures, c.as_slice.ensures) at c.shows_case.ensures in
    behind_next (λ front case. CaseShows c.args.task.now (branch_of c.args.trail.now) case) _ (shown_pairs c.args.cases.now c.args.lists.now) c.loop-at.at _
    c.loop-at.invariant (pair_at c.args.cases.now c.args.lists.now c.loop-at.at c.index-cases-at.result c.index-lists-at.result c.loop-at-test.true
    c.requires.as_many c.index-cases-at.is c.index-lists-at.is) (told.0 c.if-not-shows_case.false)

pub returns : goal.returns
returns c = pairs_pass (λ front case. CaseShows c.args.task.now (branch_of c.args.trail.now) case) c.args.cases.now c.args.lists.now c.loop-at.at
    c.requires.as_many c.loop-at-test.false c.loop-at.invariant
