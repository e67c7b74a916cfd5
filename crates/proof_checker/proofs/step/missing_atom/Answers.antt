use Rattle.logic_core.specs.declared.form.Atom.{Atom}
use Rattle.vernacular_tree.specs.Contexts.{atom_at, Stands}
use Rattle.proof_checker.specs.Kept.{branch_of}
use Rattle.proof_checker.proofs.Compared.{failed}
use Rattle.proof_checker.proofs.Searched.{fails_here, passes_here}
use Rattle.proof_checker.proofs.Taken.{seen_at}
use Rattle.proof_checker.proofs.step.missing_atom.Goals as goal

pub returns-then-not-holds : goal.returns-then-not-holds
returns-then-not-holds c =
    let told = c.holds.ensures c.requires.kept.0 c.requires.kept.1 in
    let at = seen_at c.args.elements.now c.index-atoms-at.result in
    fails_here (λ front (atom : Atom). Stands (branch_of c.args.trail.now).context (atom_at c.args.elements.now atom)) c.args.atoms.now c.loop-at.at
    c.index-atoms-at.result c.loop-at-test.true c.index-atoms-at.is c.loop-at.invariant
    (failed c.holds.result _ (rw (c.in_ok-fact.ensures, at) at told) c.if-not-holds.true)

pub loop-at-preserved : goal.loop-at-preserved
loop-at-preserved c =
    let told = c.holds.ensures c.requires.kept.0 c.requires.kept.1 in
    let at = seen_at c.args.elements.now c.index-atoms-at.result in
    passes_here (λ front (atom : Atom). Stands (branch_of c.args.trail.now).context (atom_at c.args.elements.now atom)) c.args.atoms.now c.loop-at.at
    c.index-atoms-at.result c.loop-at-test.true c.index-atoms-at.is c.loop-at.invariant
    ((rw (c.in_ok-fact.ensures, at) at told).0 c.if-not-holds.false)
