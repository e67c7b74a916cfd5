use Rattle.std.proofs.Common.{◌∙◌, ap}
use Rattle.logic_core.specs.declared.form.Form.{Form}
use Rattle.proof_checker.proofs.Ended.{answer_refused, answer_is, disjunct_at}
use Rattle.proof_checker.proofs.finish.check_answer.Goals as goal

pub returns-in-Some-2-clause-err : goal.returns-in-Some-2-clause-err
returns-in-Some-2-clause-err c =
    let task = c.args.task.now in
    let goal = c.goal-goal.ensures.value in
    let within = rw goal at (c.has_disjunct.ensures.0 c.if-not-has_disjunct.false) in
    let at = disjunct_at task.goal c.as_slice-2.result.now c.args.disjunct c.index-as_slice-disjunct.result (c.as_slice-2.ensures ∙ ap (λ (f : Form). f.disjuncts) goal)
    within c.index-as_slice-disjunct.is in
    let stand = rw c.in-Some.is at c.in_ok-args.ensures in
    let fails = rw (c.in-Some-2.is, c.as_slice-3.ensures, c.as_slice-4.ensures, c.in_ok-elements.ensures, c.as_slice.ensures) at c.in_ok-atom.ensures in
    answer_refused task c.args.trail.now c.args.disjunct c.args.texts.now c.index-as_slice-disjunct.result c.in-Some.args c.in-Some-2.atom within
    (c.if-texts-goal.false ∙ ap (λ (f : Form). f.existentials) goal) stand at fails

pub returns-in-None-clause-answer : goal.returns-in-None-clause-answer
returns-in-None-clause-answer c =
    let task = c.args.task.now in
    let goal = c.goal-goal.ensures.value in
    let within = rw goal at (c.has_disjunct.ensures.0 c.if-not-has_disjunct.false) in
    let at = disjunct_at task.goal c.as_slice-2.result.now c.args.disjunct c.index-as_slice-disjunct.result (c.as_slice-2.ensures ∙ ap (λ (f : Form). f.disjuncts) goal)
    within c.index-as_slice-disjunct.is in
    let stand = rw c.in-Some.is at c.in_ok-args.ensures in
    let each = rw (c.in-None.is, c.as_slice-3.ensures, c.as_slice-4.ensures, c.in_ok-elements.ensures, c.as_slice.ensures) at c.in_ok-atom.ensures in
    answer_is task c.args.trail.now c.args.disjunct c.args.texts.now c.index-as_slice-disjunct.result c.in-Some.args within
    (c.if-texts-goal.false ∙ ap (λ (f : Form). f.existentials) goal) stand at each
