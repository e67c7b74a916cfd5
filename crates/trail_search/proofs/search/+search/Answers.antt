use Rattle.std.proofs.Common.{◌≡◌, ℕ, ◌+◌, ◌-◌, ◌<◌, ◌≤◌, List, [], length, take, slice_get, Some, inl, inr, refl, sym, ap, ◌∙◌, subst, arith, rules}
use Rattle.std.proofs.lemmas.Bool.{OnTrue_at, OnFalse_at, OnTrue_from, OnFalse_from}
use Rattle.std.proofs.lemmas.Option.{slice_get_within}
use Rattle.logic_core.specs.declared.form.Atom.{Atom}
use Rattle.vernacular_tree.specs.Barren.{Barren, without}
use Rattle.vernacular_tree.specs.Rules.{IsInstance}
use Rattle.vernacular_tree.specs.Contexts.{after_mp, with_facts}
use Rattle.vernacular_tree.specs.declared.context.Line.TheVariants.{Cases}
use Rattle.coherent_form.specs.Tasks.{proof_task}
use Rattle.fact_store.specs.Facts.{Facts}
use Rattle.instance_cursor.specs.Cursors.{rest_of}
use Rattle.instance_cursor.specs.Instances.{IsInstanceOver}
use Rattle.kept_context.specs.Kept.{Kept, Represents, Grows}
use Rattle.trail_search.specs.Branches.{SplitHasNone}
use Rattle.trail_search.specs.Least.{HasNone}
use Rattle.trail_search.specs.Recorded.{Recorded}
use Rattle.trail_search.specs.Searches.{IsReady, IsWide, HasCursors, CanNote, IsNoted}
use Rattle.trail_search.proofs.Cases.{NotesCases, LacksCases, same_cases, cases_last, cases_others, cases_noted, last_noted}
use Rattle.trail_search.proofs.Dead.{none_here, none_in_one, none_in_zero}
use Rattle.trail_search.proofs.Noting.{noted_more, noted_step, noted_undone, noted_behind, note_left, split_fits, step_fits}
use Rattle.trail_search.proofs.Ready.{back_same, represents_same, fewer_cases, ready_less, ready_step, ready_last, cursors_less, cursors_again, cursors_set, line_small, line_within}
use Rattle.trail_search.proofs.Splitting.{split_large, split_none, split_next, split_noted}
use Rattle.kept_context.proofs.Laws.{instance_of}
use Rattle.trail_search.proofs.Trying.{left_next, left_over, next_kept, over_kept, first_has, wide_kept, form_at, form_tried, form_fits, form_narrow}
use Rattle.trail_search.proofs.search.+search.Goals as goal

pub close_cases-search_least-least-requires : goal.close_cases-search_least-least-requires
close_cases-search_least-least-requires t c =
    let few = c.requires.few in
    let note = c.requires.note in (
      omega arith,
      (
        ready_last c.args.scene.now.task.now c.args.scene.now.answers.now c.args.scene.now.lent.now c.args.line c.args.count c.args.left c.args.kept.now c.enter_case.new.self
            c.requires.ready c.requires.there c.if-count-eq0.false c.enter_case.ensures.represents (c.enter_case.ensures.room c.args.left c.requires.ready.room),
        (
          cursors_less c.args.left (c.args.left - (c.args.count - 1)) c.args.cursors.now (omega arith) c.requires.cursors,
          omega arith,
        ),
      ),
    )

pub close_cases-returns-in_default-clause-none : goal.close_cases-returns-in_default-clause-none
close_cases-returns-in_default-clause-none t c =
    cases_last c.args.scene.now.task.now c.args.scene.now.lent.now c.args.line c.args.count c.args.kept.now c.enter_case.new.self c.requires.there c.if-count-eq0.false
    c.enter_case.ensures.represents c.args.left c.in_default.ensures.none

pub close_cases-close_cases-requires : goal.close_cases-close_cases-requires
close_cases-close_cases-requires t c =
    let task = c.args.scene.now.task.now in
    let lent = c.args.scene.now.lent.now in
    let old = c.args.kept.now in
    let few = c.requires.few in
    let le = c.in-Some.ensures.within.1 in
    let left = c.args.left - c.in-Some.size in
    let same = back_same old c.enter_case.new.self c.search_least-least.new.kept c.back.new.self c.point-point.result c.point-point.ensures c.enter_case.ensures.grows
    c.search_least-least.ensures.kept c.back.ensures in
    let noted = last_noted task lent c.args.line c.args.count old c.enter_case.new.self c.requires.there c.if-count-eq0.false c.enter_case.ensures.represents c.in-Some.size
    c.args.found.now c.search_least-least.new.found c.requires.ready.context c.requires.ready.represents c.in-Some.ensures.noted in (
      let some = c.in-Some.ensures.within.0 in omega arith,
      (
        subst (IsReady task c.args.scene.now.answers.now lent (left + 1)) (sym same)
            (ready_less task c.args.scene.now.answers.now lent (c.args.left + 1) (left + 1) old (omega arith) c.requires.ready),
        (
          cursors_less c.args.left left c.search_least-least.new.cursors (omega arith)
              (cursors_again c.args.left (c.args.left - (c.args.count - 1)) c.args.cursors.now c.search_least-least.new.cursors c.search_least-least.auto.cursors c.requires.cursors c.search_least-least.ensures.cursors),
          (
            note_left (proof_task task) noted.0 c.in-Some.size c.args.left left c.args.found.now c.search_least-least.new.found (omega arith) noted.1 c.requires.note,
            (
              fewer_cases task lent old c.back.new.self c.args.line c.args.count same c.requires.there,
              omega arith,
            ),
          ),
        ),
      ),
    )

pub close_cases-returns-then-close_cases-clause-noted : goal.close_cases-returns-then-close_cases-clause-noted
close_cases-returns-then-close_cases-clause-noted t c =
    let task = c.args.scene.now.task.now in
    let lent = c.args.scene.now.lent.now in
    let le = c.in-Some.ensures.within.1 in
    let same = back_same c.args.kept.now c.enter_case.new.self c.search_least-least.new.kept c.back.new.self c.point-point.result c.point-point.ensures c.enter_case.ensures.grows
    c.search_least-least.ensures.kept c.back.ensures in
    cases_noted task lent c.args.line c.args.count c.args.kept.now c.enter_case.new.self c.requires.there c.if-count-eq0.false c.enter_case.ensures.represents c.in-Some.size c.args.left
    c.args.found.now c.search_least-least.new.found c.close_cases.new.found (omega arith) c.in-Some.ensures.noted
    (subst (λ (k : Kept). NotesCases task lent k c.args.line (c.args.count - 1) (c.args.left - c.in-Some.size) c.search_least-least.new.found c.close_cases.new.found) same
    c.if-close_cases.ensures.noted)

pub close_cases-back-requires-2 : goal.close_cases-back-requires-2
close_cases-back-requires-2 t c =
    let task = c.args.scene.now.task.now in
    let noted = last_noted task c.args.scene.now.lent.now c.args.line c.args.count c.args.kept.now c.enter_case.new.self c.requires.there c.if-count-eq0.false
    c.enter_case.ensures.represents c.in-Some.size c.args.found.now c.search_least-least.new.found c.requires.ready.context c.requires.ready.represents c.in-Some.ensures.noted in
    noted_behind (proof_task task) noted.0 c.in-Some.size c.point-noted.result c.args.found.now c.search_least-least.new.found c.close_cases.new.found noted.1
    c.if-close_cases.ensures.same c.point-noted.ensures

pub close_cases-returns-clause-none : goal.close_cases-returns-clause-none
close_cases-returns-clause-none t c =
    let task = c.args.scene.now.task.now in
    let lent = c.args.scene.now.lent.now in
    let same = back_same c.args.kept.now c.enter_case.new.self c.search_least-least.new.kept c.back.new.self c.point-point.result c.point-point.ensures c.enter_case.ensures.grows
    c.search_least-least.ensures.kept c.back.ensures in
    cases_others task lent c.args.line c.args.count c.args.kept.now c.enter_case.new.self c.requires.there c.if-count-eq0.false c.enter_case.ensures.represents c.in-Some.size c.args.left
    c.in-Some.ensures.least (subst (λ (k : Kept). LacksCases task lent k c.args.line (c.args.count - 1) (c.args.left - c.in-Some.size)) same c.if-close_cases.ensures.none)

pub close_cases-returns-clause-same : goal.close_cases-returns-clause-same
close_cases-returns-clause-same t c =
    let task = c.args.scene.now.task.now in
    let noted = last_noted task c.args.scene.now.lent.now c.args.line c.args.count c.args.kept.now c.enter_case.new.self c.requires.there c.if-count-eq0.false
    c.enter_case.ensures.represents c.in-Some.size c.args.found.now c.search_least-least.new.found c.requires.ready.context c.requires.ready.represents c.in-Some.ensures.noted in
    noted_undone (proof_task task) noted.0 c.in-Some.size c.point-noted.result c.args.found.now c.search_least-least.new.found c.close_cases.new.found c.back-2.new.self noted.1
    c.if-close_cases.ensures.same c.point-noted.ensures c.back-2.ensures.nodes c.back-2.ensures.room

pub search-returns-in_default-clause-none : goal.search-returns-in_default-clause-none
search-returns-in_default-clause-none t c = λ context r body proves small.
    let enough = c.requires.cursors.enough in
    let none = c.in_default.len_below in none_in_zero (proof_task c.args.scene.now.task.now) context body proves (omega arith)

pub search-returns-then-budget-eq0-clause-none : goal.search-returns-then-budget-eq0-clause-none
search-returns-then-budget-eq0-clause-none t c = λ context r body proves small.
    let zero = c.if-budget-eq0.true in none_in_zero (proof_task c.args.scene.now.task.now) context body proves (omega arith)

pub search-returns-then-close-clause-noted : goal.search-returns-then-close-clause-noted
search-returns-then-close-clause-noted t c = λ context r.
    noted_more (proof_task c.args.scene.now.task.now) context 1 c.args.budget c.args.found.now c.close.new.found (omega arith) (c.if-close.ensures.noted context r)

pub search-returns-then-split-clause-noted : goal.search-returns-then-split-clause-noted
search-returns-then-split-clause-noted t c = λ context r.
    subst (λ (f : Recorded). IsNoted (proof_task c.args.scene.now.task.now) context c.args.budget f c.split.new.found) c.if-close.ensures.same (c.if-split.ensures.noted context r)

pub search-returns-then-budget-eq1-clause-none : goal.search-returns-then-budget-eq1-clause-none
search-returns-then-budget-eq1-clause-none t c = λ context r body proves small.
    let task = proof_task c.args.scene.now.task.now in
    let one = c.if-budget-eq1.true in
    none_in_one task context (c.if-close.ensures.open context r)
    (λ line. subst (SplitHasNone task context line) one (c.if-split.ensures.none context line r)) body proves (omega arith)

pub search-returns-then-try_form-clause-noted : goal.search-returns-then-try_form-clause-noted
search-returns-then-try_form-clause-noted t c = λ context r.
    let task = c.args.scene.now.task.now in
    let inv = c.loop-form.invariant in
    subst (λ (f : Recorded). IsNoted (proof_task task) context c.args.budget f c.try_form.new.found) inv.found
    (c.if-try_form.ensures.noted context (represents_same task c.args.scene.now.lent.now c.args.kept.now c.loop-form.kept context inv.same r))

pub search-returns-clause-none : goal.search-returns-clause-none
search-returns-clause-none t c = λ context r body proves small.
    let task = proof_task c.args.scene.now.task.now in
    let law = c.barren_step_may_be_left_out.ensures in
    let budget : c.args.budget ≡ c.args.budget - 1 + 1 = omega arith in
    none_here task context (c.args.budget - 1)
    (λ whole is barren. (without (length context.lines) [] 0 whole, law.proves task context whole [] 0 is barren, law.smaller task context whole [] 0 barren))
    (c.if-close.ensures.open context r)
    (λ line. subst (SplitHasNone task context line) budget (c.if-split.ensures.none context line r))
    (λ number form args is instance. let there = slice_get_within c.args.scene.now.task.now.forms number form is in let all = ap length c.forms.ensures.value in
    c.loop-form.invariant.none context r number (omega arith) form args is instance)
    body proves (omega arith)

pub search_least-loop-smaller-init : goal.search_least-loop-smaller-init
search_least-loop-smaller-init t c = record {
  same = refl;
  cursors = c.requires.cursors;
  found = refl;
  none = λ context r. none_in_zero (proof_task c.args.scene.now.task.now) context;
}

pub search_least-returns-then-search-clause-noted : goal.search_least-returns-then-search-clause-noted
search_least-returns-then-search-clause-noted t c = λ context r.
    let task = c.args.scene.now.task.now in
    let inv = c.loop-smaller.invariant in
    subst (λ (f : Recorded). IsNoted (proof_task task) context (c.loop-smaller.smaller + 1) f c.search.new.found) inv.found
    (c.if-search.ensures.noted context (represents_same task c.args.scene.now.lent.now c.args.kept.now c.loop-smaller.kept context inv.same r))

pub split-loop-line-preserved-in_default : goal.split-loop-line-preserved-in_default
split-loop-line-preserved-in_default t c =
    let task = c.args.scene.now.task.now in
    let lent = c.args.scene.now.lent.now in
    let inv = c.loop-line.invariant in record {
      same = inv.same;
      cursors = inv.cursors;
      found = inv.found;
      none = λ context r. split_next (proof_task task) context c.loop-line.line c.args.budget (inv.none context r)
          (split_large (proof_task task) context c.loop-line.line c.args.budget
          (λ lists is. c.in_default.ensures.none context lists (represents_same task lent c.args.kept.now c.loop-line.kept context inv.same r) is));
    }

pub split-overflow_cast-line : goal.split-overflow_cast-line
split-overflow_cast-line t c =
    let small = line_small c.args.scene.now.task.now c.args.scene.now.answers.now c.args.scene.now.lent.now c.args.budget c.line_count-line-end.result c.loop-line.line c.args.kept.now
    c.requires.ready (c.line_count-line-end.ensures c.args.scene.now.task.now) c.loop-line-test.true in omega arith

pub split-push_split-requires : goal.split-push_split-requires
split-push_split-requires t c =
    let task = c.args.scene.now.task.now in
    let lent = c.args.scene.now.lent.now in
    let inv = c.loop-line.invariant in
    let some = c.in-Some.ensures.some.0 in
    let context = c.requires.ready.context in
    let r = represents_same task lent c.args.kept.now c.loop-line.kept context inv.same c.requires.ready.represents in
    let cases = c.in-Some.ensures.some.1 context r in
    split_fits (proof_task task) context (take c.in-Some.count cases.0) c.args.budget c.loop-line.found c.close_cases.new.found (omega arith)
    (c.if-close_cases.ensures.noted context cases.0 r cases.1) (subst (CanNote c.args.budget) (sym inv.found) c.requires.note)

pub split-returns-then-close_cases-clause-noted : goal.split-returns-then-close_cases-clause-noted
split-returns-then-close_cases-clause-noted t c = λ context r.
    let task = c.args.scene.now.task.now in
    let lent = c.args.scene.now.lent.now in
    let inv = c.loop-line.invariant in
    let some = c.in-Some.ensures.some.0 in
    let here = represents_same task lent c.args.kept.now c.loop-line.kept context inv.same r in
    let cases = c.in-Some.ensures.some.1 context here in
    subst (λ (f : Recorded). IsNoted (proof_task task) context c.args.budget f c.push_split.new.self) inv.found
    (split_noted (proof_task task) context c.loop-line.line c.in-Some.count c.args.budget cases.0 c.loop-line.found c.close_cases.new.found c.push_split.new.self (omega arith)
    cases.1 cases.2 (c.if-close_cases.ensures.noted context cases.0 here cases.1) c.push_split.ensures.nodes c.push_split.ensures.room)

pub split-loop-line-preserved : goal.split-loop-line-preserved
split-loop-line-preserved t c =
    let task = c.args.scene.now.task.now in
    let lent = c.args.scene.now.lent.now in
    let inv = c.loop-line.invariant in record {
      same = c.close_cases.ensures.kept ∙ inv.same;
      cursors = cursors_again c.args.budget (c.args.budget - 1) c.loop-line.cursors c.close_cases.new.cursors c.close_cases.auto.cursors inv.cursors c.close_cases.ensures.cursors;
      found = c.if-close_cases.ensures.same ∙ inv.found;
      none = λ context r. let here = represents_same task lent c.args.kept.now c.loop-line.kept context inv.same r in
          split_next (proof_task task) context c.loop-line.line c.args.budget (inv.none context r)
          (split_none (proof_task task) context c.loop-line.line c.in-Some.count c.args.budget
          (λ lists is. let cases = c.in-Some.ensures.some.1 context here in ap length (same_cases context c.loop-line.line lists cases.0 is cases.1) ∙ cases.2)
          (λ lists is. c.if-close_cases.ensures.none context lists here is));
    }

pub split-returns-clause-none : goal.split-returns-clause-none
split-returns-clause-none t c = λ context line r lists bodies is prove small.
    let within = line_within context line c.line_count-line-end.result (Cases lists) is (c.line_count-line-end.ensures c.args.scene.now.task.now context r) in
    c.loop-line.invariant.none context r line (omega arith) lists bodies is prove small

pub take_step-search-done-requires : goal.take_step-search-done-requires
take_step-search-done-requires t c =
    let task = c.args.scene.now.task.now in
    let lent = c.args.scene.now.lent.now in
    let ready = c.requires.ready in
    let step = c.requires.step in
    let note = c.requires.note in (
      omega arith,
      (
        ready_step task c.args.scene.now.answers.now lent c.args.left c.args.kept.now c.apply.new.self step.0 c.args.args.now ready
            (c.apply.ensures.represents lent ready.context step.0 ready.represents step.1) (c.apply.ensures.room c.args.left ready.room),
        (
          c.requires.cursors,
          omega arith,
        ),
      ),
    )

pub take_step-push_mp-requires-clause-room : goal.take_step-push_mp-requires-clause-room
take_step-push_mp-requires-clause-room t c =
    let task = c.args.scene.now.task.now in
    let ready = c.requires.ready in
    let step = c.requires.step in
    let after = after_mp ready.context step.0 c.args.args.now in
    step_fits (proof_task task) after c.args.left c.args.found.now c.search-done.new.found
    (OnTrue_at c.if-done.true c.search-done.ensures.noted after (c.apply.ensures.represents c.args.scene.now.lent.now ready.context step.0 ready.represents step.1)) c.requires.note

pub take_step-push_mp-requires-clause-narrow : goal.take_step-push_mp-requires-clause-narrow
take_step-push_mp-requires-clause-narrow t c =
    let step = c.requires.step in
    let long = step.2 in
    let narrow = form_narrow c.args.scene.now.task.now c.args.form step.0 c.requires.ready.task_is step.1 in omega arith

pub take_step-returns-then-done-clause-noted : goal.take_step-returns-then-done-clause-noted
take_step-returns-then-done-clause-noted t c = OnTrue_from c.search-done.result _ (λ done context f r is instance.
    let task = c.args.scene.now.task.now in
    let after = after_mp context f c.args.args.now in
    noted_step (proof_task task) context c.args.form f c.args.args.now c.args.left c.args.found.now c.search-done.new.found c.push_mp.new.self is instance
    (OnTrue_at c.if-done.true c.search-done.ensures.noted after (c.apply.ensures.represents c.args.scene.now.lent.now context f r is)) c.push_mp.ensures.nodes c.push_mp.ensures.room)

pub take_step-returns-else-done-clause-none : goal.take_step-returns-else-done-clause-none
take_step-returns-else-done-clause-none t c = OnFalse_from c.search-done.result _ (λ done context f r is.
    let after = after_mp context f c.args.args.now in
    OnFalse_at c.if-done.false c.search-done.ensures.none after (c.apply.ensures.represents c.args.scene.now.lent.now context f r is))

pub try_form-start-requires : goal.try_form-start-requires
try_form-start-requires t c =
    let task = c.args.scene.now.task.now in
    let form = c.index-as_slice-number.result in
    let is = form_at task.forms c.forms.result.now c.as_slice.result.now c.args.number form c.as_slice.ensures c.forms.ensures.value c.requires.there c.index-as_slice-number.is in
    let tried = form_tried task c.args.number c.args.kept.now.elements form c.requires.ready.task_is c.requires.ready.start is in
    let wide = first_has IsWide c.args.cursors.now c.in-Some.deeper.now c.in-Some.cursor.now c.in-Some.ensures.cases.0 c.requires.cursors.wide in record {
      variables = let few = tried.variables in let many = wide.variables in let le : form.universals ≤ c.in-Some.cursor.now.variables = omega arith in le;
      premises = let few = tried.premises in let many = wide.premises in let le : length form.premises ≤ c.in-Some.cursor.now.premises = omega arith in le;
      below = rw c.elements.ensures tried.below;
      small = tried.small;
    }

pub try_form-is_barren-requires : goal.try_form-is_barren-requires
try_form-is_barren-requires t c =
    let task = c.args.scene.now.task.now in
    let right = c.requires.ready.task_is in
    let form = c.index-as_slice-number.result in
    let is = form_at task.forms c.forms.result.now c.as_slice.result.now c.args.number form c.as_slice.ensures c.forms.ensures.value c.requires.there c.index-as_slice-number.is in
    (task, form_fits task c.args.number form right is, right.few_symbols)

pub try_form-instances-preserved-then-is_barren : goal.try_form-instances-preserved-then-is_barren
try_form-instances-preserved-then-is_barren t c =
    let task = c.args.scene.now.task.now in
    let lent = c.args.scene.now.lent.now in
    let old = c.args.kept.now in
    let form = c.index-as_slice-number.result in
    let inv = c.instances.invariant in
    let next = next_kept old c.instances.kept form c.store-in-instances.result.now c.elements-in-instances.result c.instances.cursor c.next.new.self inv.same c.store-in-instances.ensures
    c.elements-in-instances.ensures inv.each c.next.ensures.at c.instances-test.ensures.given in record {
      same = inv.same;
      wide = wide_kept c.instances.cursor c.next.new.self c.next.ensures.variables_kept c.next.ensures.premises_kept inv.wide;
      deeper = inv.deeper;
      found = inv.found;
      at = next.at;
      each = next.others;
      rest = left_next task lent old form (c.args.budget - 1) (rest_of c.instances.cursor form old.store.facts old.elements) (rest_of c.next.new.self form old.store.facts old.elements)
          c.next.new.self.args next.split
          (λ context r. inl (subst (Barren context form) c.args-in-instances.ensures
          ((c.is_barren.ensures task lent context (represents_same task lent old c.instances.kept context inv.same r)).0 c.if-is_barren.true))) inv.rest;
    }

pub try_form-take_step-requires : goal.try_form-take_step-requires
try_form-take_step-requires t c =
    let task = c.args.scene.now.task.now in
    let old = c.args.kept.now in
    let form = c.index-as_slice-number.result in
    let inv = c.instances.invariant in
    let some = c.requires.some in
    let one : c.args.budget ≡ c.args.budget - 1 + 1 = omega arith in
    let next = next_kept old c.instances.kept form c.store-in-instances.result.now c.elements-in-instances.result c.instances.cursor c.next.new.self inv.same c.store-in-instances.ensures
    c.elements-in-instances.ensures inv.each c.next.ensures.at c.instances-test.ensures.given in (
      omega arith,
      (
        subst (IsReady task c.args.scene.now.answers.now c.args.scene.now.lent.now (c.args.budget - 1 + 1)) (sym inv.same)
            (subst (λ (n : ℕ). IsReady task c.args.scene.now.answers.now c.args.scene.now.lent.now n old) one c.requires.ready),
        (
          inv.deeper,
          (
            subst (CanNote (c.args.budget - 1 + 1)) (sym inv.found) (subst (λ (n : ℕ). CanNote n c.args.found.now) one c.requires.note),
            (
              form,
              form_at task.forms c.forms.result.now c.as_slice.result.now c.args.number form c.as_slice.ensures c.forms.ensures.value c.requires.there c.index-as_slice-number.is,
              ap length c.args-in-instances-2.ensures ∙ next.this.length_is,
            ),
          ),
        ),
      ),
    )

pub try_form-returns-then-take_step-clause-noted : goal.try_form-returns-then-take_step-clause-noted
try_form-returns-then-take_step-clause-noted t c = λ context r.
    let task = c.args.scene.now.task.now in
    let lent = c.args.scene.now.lent.now in
    let old = c.args.kept.now in
    let form = c.index-as_slice-number.result in
    let inv = c.instances.invariant in
    let some = c.requires.some in
    let one : c.args.budget - 1 + 1 ≡ c.args.budget = omega arith in
    let is = form_at task.forms c.forms.result.now c.as_slice.result.now c.args.number form c.as_slice.ensures c.forms.ensures.value c.requires.there c.index-as_slice-number.is in
    let next = next_kept old c.instances.kept form c.store-in-instances.result.now c.elements-in-instances.result c.instances.cursor c.next.new.self inv.same c.store-in-instances.ensures
    c.elements-in-instances.ensures inv.each c.next.ensures.at c.instances-test.ensures.given in
    let stands = subst (IsInstance context form) (sym c.args-in-instances-2.ensures) (instance_of task lent old context r form c.next.new.self.args next.this) in
    subst (λ (f : Recorded). IsNoted (proof_task task) context c.args.budget f c.take_step.new.found) inv.found
    (subst (λ (n : ℕ). IsNoted (proof_task task) context n c.instances.found c.take_step.new.found) one
    (c.if-take_step.ensures.noted context form (represents_same task lent old c.instances.kept context inv.same r) is stands))

pub try_form-instances-preserved : goal.try_form-instances-preserved
try_form-instances-preserved t c =
    let task = c.args.scene.now.task.now in
    let lent = c.args.scene.now.lent.now in
    let old = c.args.kept.now in
    let form = c.index-as_slice-number.result in
    let inv = c.instances.invariant in
    let is = form_at task.forms c.forms.result.now c.as_slice.result.now c.args.number form c.as_slice.ensures c.forms.ensures.value c.requires.there c.index-as_slice-number.is in
    let next = next_kept old c.instances.kept form c.store-in-instances.result.now c.elements-in-instances.result c.instances.cursor c.next.new.self inv.same c.store-in-instances.ensures
    c.elements-in-instances.ensures inv.each c.next.ensures.at c.instances-test.ensures.given in record {
      same = c.take_step.ensures.kept ∙ inv.same;
      wide = wide_kept c.instances.cursor c.next.new.self c.next.ensures.variables_kept c.next.ensures.premises_kept inv.wide;
      deeper = c.take_step.ensures.cursors;
      found = c.if-take_step.ensures.same ∙ inv.found;
      at = next.at;
      each = next.others;
      rest = left_next task lent old form (c.args.budget - 1) (rest_of c.instances.cursor form old.store.facts old.elements) (rest_of c.next.new.self form old.store.facts old.elements)
          c.next.new.self.args next.split
          (λ context r. inr (subst (λ (args : List ℕ). HasNone (proof_task task) (after_mp context form args) (c.args.budget - 1)) c.args-in-instances-2.ensures
          (c.if-take_step.ensures.none context form (represents_same task lent old c.instances.kept context inv.same r) is))) inv.rest;
    }

pub try_form-returns-clause-none : goal.try_form-returns-clause-none
try_form-returns-clause-none t c =
    let task = c.args.scene.now.task.now in
    let old = c.args.kept.now in
    let form = c.index-as_slice-number.result in
    let inv = c.instances.invariant in
    let is = form_at task.forms c.forms.result.now c.as_slice.result.now c.args.number form c.as_slice.ensures c.forms.ensures.value c.requires.there c.index-as_slice-number.is in
    let over = over_kept old c.instances.kept form c.store-in-instances.result.now c.elements-in-instances.result c.instances.cursor inv.same c.store-in-instances.ensures
    c.elements-in-instances.ensures c.instances-test.ensures.over in
    left_over task c.args.scene.now.lent.now old c.args.number form (c.args.budget - 1) (rest_of c.instances.cursor form old.store.facts old.elements) is over inv.rest

pub search-split-requires : goal.search-split-requires
search-split-requires t c =
    let cursors = c.requires.cursors in
    let same = c.if-close.ensures.same in (
      omega arith,
      (
        c.requires.ready,
        (
          cursors_set c.args.budget c.args.cursors.now c.close.new.cursor c.requires.cursors c.close.ensures.wide,
          subst (CanNote c.args.budget) (sym same) c.requires.note,
        ),
      ),
    )
