use Rattle.std.proofs.Common.{◌∙◌, ap}
use Rattle.model_search.proofs.Sheets.{goes_more}
use Rattle.model_search.proofs.Disjuncts.{none_left_at, left_same, left_more, left_all}
use Rattle.model_search.proofs.options.atoms_left.Goals as goal
use Rattle.model_search.proofs.options.atoms_left.Goals.{in-Some-true, in-None+in_ok-push-in-None}

pub returns-in-Some-false-clause-goes : goal.returns-in-Some-false-clause-goes
returns-in-Some-false-clause-goes c =
    goes_more c.args.sheet.now c.loop-atom.sheet c.ground_atom.new.sheet c.loop-atom.invariant.goes c.in_ok-fact.ensures.goes

pub returns-in-Some-false-clause-none : goal.returns-in-Some-false-clause-none
returns-in-Some-false-clause-none c = λ k.
    none_left_at k c.args.values.now c.args.disjunct.now c.loop-atom.atom-index c.atom-item.result c.in_ok-fact.fact c.ground_atom.new.sheet
    c.loop-atom-test.true c.atom-item.is (c.in-Some-false.ensures k ∙ c.in-Some-false.field-0-test) (c.in_ok-fact.ensures.means k)

pub loop-atom-preserved : goal.loop-atom-preserved
loop-atom-preserved c = record {
  goes = goes_more c.args.sheet.now c.loop-atom.sheet c.ground_atom.new.sheet c.loop-atom.invariant.goes c.in_ok-fact.ensures.goes;
  covers = λ k all. elim c.match-decided.branch [
    | in-Some-true w ↦ left_same k c.args.values.now c.args.disjunct.now c.loop-atom.atom-index c.atom-item.result c.loop-atom-test.true
        c.atom-item.is c.loop-atom.sheet c.ground_atom.new.sheet c.in_ok-fact.ensures.goes c.loop-atom.left.items c.match-decided.left.items
        (c.loop-atom.invariant.covers k) all (ap (λ v. v.items) w.left-is)
    | in-None+in_ok-push-in-None w ↦ left_more k c.args.values.now c.args.disjunct.now c.loop-atom.atom-index c.atom-item.result
        c.loop-atom-test.true c.atom-item.is c.loop-atom.sheet c.ground_atom.new.sheet c.in_ok-fact.ensures.goes c.loop-atom.left.items
        c.match-decided.left.items (c.loop-atom.invariant.covers k) all c.in_ok-fact.fact
        (ap (λ v. v.items) w.left-is ∙ w.in_ok-push-in-None.ensures.items) (c.in_ok-fact.ensures.means k)
  ];
}

pub returns-clause-some : goal.returns-clause-some
returns-clause-some c = λ k.
    left_all k c.args.values.now c.args.disjunct.now c.loop-atom.atom-index c.loop-atom.left.items c.loop-atom.sheet c.loop-atom-test.false
    (c.loop-atom.invariant.covers k)
