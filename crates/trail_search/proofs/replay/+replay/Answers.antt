use Rattle.std.proofs.Common.{◌≡◌, ℕ, ◌+◌, ◌-◌, take, sym, subst, arith}
use Rattle.std.proofs.lemmas.Bool.{OnTrue_at, OnTrue_from, OnFalse_from}
use Rattle.vernacular_tree.specs.Contexts.{after_mp}
use Rattle.coherent_form.specs.Tasks.{proof_task}
use Rattle.kept_context.specs.Kept.{Kept}
use Rattle.trail_search.specs.Recorded.{Recorded}
use Rattle.trail_search.specs.Searches.{IsReady, IsNoted}
use Rattle.trail_search.proofs.Cases.{NotesCases, cases_noted, last_noted}
use Rattle.trail_search.proofs.Noting.{noted_more, noted_step, noted_undone, noted_behind, note_left, split_fits, step_fits}
use Rattle.trail_search.proofs.Ready.{back_same, fewer_cases, ready_less, ready_step, ready_last}
use Rattle.trail_search.proofs.Replaying.{counted_within, counted_noted}
use Rattle.trail_search.proofs.Splitting.{split_noted}
use Rattle.trail_search.proofs.replay.+replay.Goals as goal

pub replay-returns-in-Some-clause-noted : goal.replay-returns-in-Some-clause-noted
replay-returns-in-Some-clause-noted t c = OnTrue_from c.replay_step.result _ (λ closed context r.
    let one : c.args.budget - 1 + 1 ≡ c.args.budget = omega arith in
    subst (λ (n : ℕ). IsNoted (proof_task c.args.scene.now.task.now) context n c.args.found.now c.replay_step.new.found) one
    (OnTrue_at closed c.replay_step.ensures.noted context r))

pub replay-returns-then-close-clause-noted : goal.replay-returns-then-close-clause-noted
replay-returns-then-close-clause-noted t c = λ context r.
    noted_more (proof_task c.args.scene.now.task.now) context 1 c.args.budget c.args.found.now c.close.new.found (omega arith) (c.if-close.ensures.noted context r)

pub replay-returns-clause-noted : goal.replay-returns-clause-noted
replay-returns-clause-noted t c = OnTrue_from c.replay_split.result _ (λ closed context r.
    subst (λ (f : Recorded). IsNoted (proof_task c.args.scene.now.task.now) context c.args.budget f c.replay_split.new.found) c.if-close.ensures.same
    (OnTrue_at closed c.replay_split.ensures.noted context r))

pub replay_branch-overflow_cast-result : goal.replay_branch-overflow_cast-result
replay_branch-overflow_cast-result t c =
    let ready = c.requires.ready in
    let counted = counted_within (proof_task c.args.scene.now.task.now) ready.context c.args.within c.point-before.result c.point.result c.args.found.now c.replay.new.found
    c.point-before.ensures c.point.ensures (c.if-not-replay.ensures.noted ready.context ready.represents) in
    let small = counted.1 in
    let fits = c.ranges.within.fits in omega arith

pub replay_branch-returns-clause-within : goal.replay_branch-returns-clause-within
replay_branch-returns-clause-within t c =
    let ready = c.requires.ready in
    counted_within (proof_task c.args.scene.now.task.now) ready.context c.args.within c.point-before.result c.point.result c.args.found.now c.replay.new.found
    c.point-before.ensures c.point.ensures (c.if-not-replay.ensures.noted ready.context ready.represents)

pub replay_branch-returns-clause-noted : goal.replay_branch-returns-clause-noted
replay_branch-returns-clause-noted t c = λ context r.
    counted_noted (proof_task c.args.scene.now.task.now) context c.args.within c.point-before.result c.point.result c.args.found.now c.replay.new.found
    c.point-before.ensures c.point.ensures (c.if-not-replay.ensures.noted context r)

pub replay_cases-replay_branch-closed-requires : goal.replay_cases-replay_branch-closed-requires
replay_cases-replay_branch-closed-requires t c =
    let few = c.requires.few in
    let note = c.requires.note in (
      omega arith,
      (
        ready_last c.args.scene.now.task.now c.args.scene.now.answers.now c.args.scene.now.lent.now c.args.line c.args.count c.args.left c.args.kept.now c.enter_case.new.self
            c.requires.ready c.requires.there c.if-count-eq0.false c.enter_case.ensures.represents (c.enter_case.ensures.room c.args.left c.requires.ready.room),
        (
          c.requires.cursor,
          omega arith,
        ),
      ),
    )

pub replay_cases-replay_cases-closed-requires : goal.replay_cases-replay_cases-closed-requires
replay_cases-replay_cases-closed-requires t c =
    let task = c.args.scene.now.task.now in
    let lent = c.args.scene.now.lent.now in
    let old = c.args.kept.now in
    let few = c.requires.few in
    let within = c.in-Some-closed.ensures.within in
    let some = within.0 in
    let le = within.1 in
    let left = c.args.left - c.in-Some-closed.size in
    let same = back_same old c.enter_case.new.self c.replay_branch-closed.new.kept c.back.new.self c.point-point.result c.point-point.ensures c.enter_case.ensures.grows
    c.replay_branch-closed.ensures.kept c.back.ensures in
    let noted = last_noted task lent c.args.line c.args.count old c.enter_case.new.self c.requires.there c.if-count-eq0.false c.enter_case.ensures.represents c.in-Some-closed.size
    c.args.found.now c.replay_branch-closed.new.found c.requires.ready.context c.requires.ready.represents c.in-Some-closed.ensures.noted in (
      omega arith,
      (
        subst (IsReady task c.args.scene.now.answers.now lent (left + 1)) (sym same)
            (ready_less task c.args.scene.now.answers.now lent (c.args.left + 1) (left + 1) old (omega arith) c.requires.ready),
        (
          c.replay_branch-closed.ensures.cursor,
          (
            note_left (proof_task task) noted.0 c.in-Some-closed.size c.args.left left c.args.found.now c.replay_branch-closed.new.found (omega arith) noted.1 c.requires.note,
            (
              fewer_cases task lent old c.back.new.self c.args.line c.args.count same c.requires.there,
              omega arith,
            ),
          ),
        ),
      ),
    )

pub replay_cases-back-requires-then-not-closed : goal.replay_cases-back-requires-then-not-closed
replay_cases-back-requires-then-not-closed t c =
    let task = c.args.scene.now.task.now in
    let noted = last_noted task c.args.scene.now.lent.now c.args.line c.args.count c.args.kept.now c.enter_case.new.self c.requires.there c.if-count-eq0.false
    c.enter_case.ensures.represents c.in-Some-closed.size c.args.found.now c.replay_branch-closed.new.found c.requires.ready.context c.requires.ready.represents
    c.in-Some-closed.ensures.noted in
    noted_behind (proof_task task) noted.0 c.in-Some-closed.size c.point-noted.result c.args.found.now c.replay_branch-closed.new.found c.replay_cases-closed.new.found noted.1
    c.if-not-closed.ensures.same c.point-noted.ensures

pub replay_cases-returns-then-not-closed-clause-same : goal.replay_cases-returns-then-not-closed-clause-same
replay_cases-returns-then-not-closed-clause-same t c = OnFalse_from c.replay_cases-closed.result _ (λ closed.
    let task = c.args.scene.now.task.now in
    let noted = last_noted task c.args.scene.now.lent.now c.args.line c.args.count c.args.kept.now c.enter_case.new.self c.requires.there c.if-count-eq0.false
    c.enter_case.ensures.represents c.in-Some-closed.size c.args.found.now c.replay_branch-closed.new.found c.requires.ready.context c.requires.ready.represents
    c.in-Some-closed.ensures.noted in
    noted_undone (proof_task task) noted.0 c.in-Some-closed.size c.point-noted.result c.args.found.now c.replay_branch-closed.new.found c.replay_cases-closed.new.found
    c.back-then-not-closed.new.self noted.1 c.if-not-closed.ensures.same c.point-noted.ensures c.back-then-not-closed.ensures.nodes c.back-then-not-closed.ensures.room)

pub replay_cases-returns-else-not-closed-clause-noted : goal.replay_cases-returns-else-not-closed-clause-noted
replay_cases-returns-else-not-closed-clause-noted t c = OnTrue_from c.replay_cases-closed.result _ (λ closed.
    let task = c.args.scene.now.task.now in
    let lent = c.args.scene.now.lent.now in
    let within = c.in-Some-closed.ensures.within in
    let le = within.1 in
    let same = back_same c.args.kept.now c.enter_case.new.self c.replay_branch-closed.new.kept c.back.new.self c.point-point.result c.point-point.ensures c.enter_case.ensures.grows
    c.replay_branch-closed.ensures.kept c.back.ensures in
    cases_noted task lent c.args.line c.args.count c.args.kept.now c.enter_case.new.self c.requires.there c.if-count-eq0.false c.enter_case.ensures.represents c.in-Some-closed.size
    c.args.left c.args.found.now c.replay_branch-closed.new.found c.replay_cases-closed.new.found (omega arith) c.in-Some-closed.ensures.noted
    (subst (λ (k : Kept). NotesCases task lent k c.args.line (c.args.count - 1) (c.args.left - c.in-Some-closed.size) c.replay_branch-closed.new.found c.replay_cases-closed.new.found) same
    c.if-not-closed.ensures.noted))

pub replay_split-push_split-requires : goal.replay_split-push_split-requires
replay_split-push_split-requires t c =
    let task = c.args.scene.now.task.now in
    let some = c.requires.some in
    let context = c.requires.ready.context in
    let r = c.requires.ready.represents in
    let cases = c.in-Some-few_cases.ensures.some.1 context r in
    split_fits (proof_task task) context (take c.in-Some-few_cases.count cases.0) c.args.budget c.args.found.now c.replay_cases-closed.new.found (omega arith)
    (c.if-closed.ensures.noted context cases.0 r cases.1) c.requires.note

pub replay_split-returns-then-closed-clause-noted : goal.replay_split-returns-then-closed-clause-noted
replay_split-returns-then-closed-clause-noted t c = OnTrue_from c.replay_cases-closed.result _ (λ closed context r.
    let cases = c.in-Some-few_cases.ensures.some.1 context r in
    split_noted (proof_task c.args.scene.now.task.now) context c.in-Some.line c.in-Some-few_cases.count c.args.budget cases.0 c.args.found.now c.replay_cases-closed.new.found
    c.push_split.new.self c.requires.some cases.1 cases.2 (c.if-closed.ensures.noted context cases.0 r cases.1) c.push_split.ensures.nodes c.push_split.ensures.room)

pub replay_step-replay-closed-requires : goal.replay_step-replay-closed-requires
replay_step-replay-closed-requires t c =
    let task = c.args.scene.now.task.now in
    let lent = c.args.scene.now.lent.now in
    let ready = c.requires.ready in
    let step = c.in-Some.ensures.instance ready.context ready.represents in
    let note = c.requires.note in (
      omega arith,
      (
        ready_step task c.args.scene.now.answers.now lent c.args.left c.args.kept.now c.apply.new.self step.0 (take c.in-Some.step.count c.begin_step.new.buffer) ready
            (c.apply.ensures.represents lent ready.context step.0 ready.represents step.1) (c.apply.ensures.room c.args.left ready.room),
        (
          c.requires.cursor,
          omega arith,
        ),
      ),
    )

pub replay_step-push_mp-requires-clause-room : goal.replay_step-push_mp-requires-clause-room
replay_step-push_mp-requires-clause-room t c =
    let ready = c.requires.ready in
    let step = c.in-Some.ensures.instance ready.context ready.represents in
    let after = after_mp ready.context step.0 (take c.in-Some.step.count c.begin_step.new.buffer) in
    step_fits (proof_task c.args.scene.now.task.now) after c.args.left c.args.found.now c.replay-closed.new.found
    (c.if-closed.ensures.noted after (c.apply.ensures.represents c.args.scene.now.lent.now ready.context step.0 ready.represents step.1)) c.requires.note

pub replay_step-returns-then-closed-clause-noted : goal.replay_step-returns-then-closed-clause-noted
replay_step-returns-then-closed-clause-noted t c = OnTrue_from c.replay-closed.result _ (λ closed context r.
    let step = c.in-Some.ensures.instance context r in
    let args = take c.in-Some.step.count c.begin_step.new.buffer in
    noted_step (proof_task c.args.scene.now.task.now) context c.in-Some.step.form step.0 args c.args.left c.args.found.now c.replay-closed.new.found c.push_mp.new.self step.1 step.2
    (c.if-closed.ensures.noted (after_mp context step.0 args) (c.apply.ensures.represents c.args.scene.now.lent.now context step.0 r step.1)) c.push_mp.ensures.nodes c.push_mp.ensures.room)
