use Rattle.std.proofs.Common.{◌≡◌, ℕ, ◌+◌, ◌-◌, ◌<◌, ◌≤◌, List, length, Some, sym, ap, ◌∙◌, subst, arith}
use Rattle.std.proofs.lemmas.Option.{slice_get_within}
use Rattle.vernacular_tree.specs.Rules.{IsAnswer}
use Rattle.instance_cursor.specs.Instances.{IsInstanceOver}
use Rattle.coherent_form.specs.Tasks.{proof_task}
use Rattle.trail_search.specs.Recorded.{Recorded}
use Rattle.trail_search.specs.Searches.{CanNote, IsNoted}
use Rattle.trail_search.proofs.Closing.{stays_open, answer_tried, answers_next, answer_given}
use Rattle.trail_search.proofs.Noting.{noted_falsum, noted_answer}
use Rattle.trail_search.proofs.Trying.{first_has, wide_kept, item_at}
use Rattle.trail_search.proofs.close.close.Goals as goal

pub returns-then-has_falsum-clause-noted : goal.returns-then-has_falsum-clause-noted
returns-then-has_falsum-clause-noted c = λ context r.
    noted_falsum (proof_task c.args.scene.now.task.now) context c.args.found.now c.push_falsum.new.self
    (r.falsum.0 (sym c.has_falsum.ensures ∙ c.if-has_falsum.true)) c.push_falsum.ensures.nodes c.push_falsum.ensures.room

pub start-requires-clause-variables : goal.start-requires-clause-variables
start-requires-clause-variables c =
    let ready = c.requires.ready in
    let is = item_at c.args.scene.now.answers.now c.loop-disjunct.disjunct c.answer-item.result c.loop-disjunct-test.true c.answer-item.is in
    let few = (answer_tried c.args.scene.now.task.now c.args.scene.now.answers.now c.args.kept.now.elements c.loop-disjunct.disjunct c.answer-item.result
    ready.task_is ready.answers_are ready.start is).variables in
    let wide = c.loop-disjunct.invariant.wide.variables in omega arith

pub start-requires-clause-premises : goal.start-requires-clause-premises
start-requires-clause-premises c =
    let ready = c.requires.ready in
    let is = item_at c.args.scene.now.answers.now c.loop-disjunct.disjunct c.answer-item.result c.loop-disjunct-test.true c.answer-item.is in
    let few = (answer_tried c.args.scene.now.task.now c.args.scene.now.answers.now c.args.kept.now.elements c.loop-disjunct.disjunct c.answer-item.result
    ready.task_is ready.answers_are ready.start is).premises in
    let wide = c.loop-disjunct.invariant.wide.premises in omega arith

pub start-requires-clause-below : goal.start-requires-clause-below
start-requires-clause-below c =
    let ready = c.requires.ready in
    let is = item_at c.args.scene.now.answers.now c.loop-disjunct.disjunct c.answer-item.result c.loop-disjunct-test.true c.answer-item.is in
    rw c.elements-elements.ensures (answer_tried c.args.scene.now.task.now c.args.scene.now.answers.now c.args.kept.now.elements c.loop-disjunct.disjunct c.answer-item.result
    ready.task_is ready.answers_are ready.start is).below

pub start-requires-clause-small : goal.start-requires-clause-small
start-requires-clause-small c =
    let ready = c.requires.ready in
    let is = item_at c.args.scene.now.answers.now c.loop-disjunct.disjunct c.answer-item.result c.loop-disjunct-test.true c.answer-item.is in
    (answer_tried c.args.scene.now.task.now c.args.scene.now.answers.now c.args.kept.now.elements c.loop-disjunct.disjunct c.answer-item.result
    ready.task_is ready.answers_are ready.start is).small

pub overflow_cast-disjunct : goal.overflow_cast-disjunct
overflow_cast-disjunct c = let few = c.requires.ready.few_answers in omega arith

pub overflow_add-disjunct : goal.overflow_add-disjunct
overflow_add-disjunct c = let few = c.requires.ready.few_answers in omega arith

pub push_answer-requires-clause-room : goal.push_answer-requires-clause-room
push_answer-requires-clause-room c = let same = c.loop-disjunct.invariant.found in let can = subst (CanNote 1) (sym same) c.requires.note in omega arith

pub push_answer-requires-clause-narrow : goal.push_answer-requires-clause-narrow
push_answer-requires-clause-narrow c =
    let ready = c.requires.ready in
    let is = item_at c.args.scene.now.answers.now c.loop-disjunct.disjunct c.answer-item.result c.loop-disjunct-test.true c.answer-item.is in
    let few = (answer_tried c.args.scene.now.task.now c.args.scene.now.answers.now c.args.kept.now.elements c.loop-disjunct.disjunct c.answer-item.result
    ready.task_is ready.answers_are ready.start is).variables in
    let instance = first_has (IsInstanceOver c.answer-item.result c.store-store.result.now.facts c.elements-elements.result) _ _ c.next.new.self.args c.if-next.ensures.given c.start.ensures.each in
    let long = ap length c.args-then-next.ensures ∙ instance.length_is in omega arith

pub returns-then-next-clause-noted : goal.returns-then-next-clause-noted
returns-then-next-clause-noted c = λ context r.
    let task = c.args.scene.now.task.now in
    let answers = c.args.scene.now.answers.now in
    let old = c.args.kept.now in
    let ready = c.requires.ready in
    let form = c.answer-item.result in
    let is = item_at answers c.loop-disjunct.disjunct form c.loop-disjunct-test.true c.answer-item.is in
    let each = rw (c.store-store.ensures, c.elements-elements.ensures) at c.start.ensures.each in
    let given = rw (c.store-store.ensures, c.elements-elements.ensures) at c.if-next.ensures.given in
    let answer = answer_given task c.args.scene.now.lent.now old answers c.loop-disjunct.disjunct form _ _ c.next.new.self.args ready.answers_are is each given context r in
    subst (λ (f : Recorded). IsNoted (proof_task task) context 1 f c.push_answer.new.self) c.loop-disjunct.invariant.found
    (noted_answer (proof_task task) context (c.loop-disjunct.disjunct + 1) c.args-then-next.result.now c.loop-disjunct.found c.push_answer.new.self
    (subst (IsAnswer (proof_task task) context (c.loop-disjunct.disjunct + 1)) (sym c.args-then-next.ensures) answer) c.push_answer.ensures.nodes c.push_answer.ensures.room)

pub loop-disjunct-preserved : goal.loop-disjunct-preserved
loop-disjunct-preserved c =
    let inv = c.loop-disjunct.invariant in
    let answers = c.args.scene.now.answers.now in
    let is = item_at answers c.loop-disjunct.disjunct c.answer-item.result c.loop-disjunct-test.true c.answer-item.is in
    let all = rw (c.store-store.ensures, c.elements-elements.ensures) at c.start.ensures.all in
    let over = rw (c.store-store.ensures, c.elements-elements.ensures) at c.if-next.ensures.over in record {
      wide = wide_kept c.loop-disjunct.cursor c.next.new.self (c.next.ensures.variables_kept ∙ c.start.ensures.variables_kept) (c.next.ensures.premises_kept ∙ c.start.ensures.premises_kept) inv.wide;
      found = inv.found;
      none = answers_next c.args.scene.now.task.now c.args.scene.now.lent.now c.args.kept.now answers c.loop-disjunct.disjunct c.answer-item.result _ is all over inv.none;
    }

pub returns-clause-open : goal.returns-clause-open
returns-clause-open c =
    stays_open c.args.scene.now.task.now c.args.scene.now.lent.now c.args.kept.now c.args.scene.now.answers.now c.loop-disjunct.disjunct c.requires.ready.answers_are
    (sym c.has_falsum.ensures ∙ c.if-has_falsum.false)
    (λ disjunct form is. let within = slice_get_within c.args.scene.now.answers.now disjunct form is in omega arith) c.loop-disjunct.invariant.none

pub returns-clause-same : goal.returns-clause-same
returns-clause-same c = c.loop-disjunct.invariant.found
