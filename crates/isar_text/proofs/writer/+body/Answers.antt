use Rattle.std.proofs.Common.{◌≡◌, ◌+◌, ◌≤◌, ◌++◌, List, drop, slice_get, sum_by, Some, refl, sym, ◌∙◌, ap, subst, arith, length, take}
use Rattle.std.proofs.lemmas.List.Sums.{get_or-le-sum_by}
use Rattle.std.proofs.lemmas.Result.{on_ok_weaker}
use Rattle.std.specs.List.{AllByRecursion}
use Rattle.tptp_lexer.specs.Written.{joined_texts}
use Rattle.tptp_lexer.proofs.Laws.{joined_led}
use Rattle.text_core.specs.Names.{Text}
use Rattle.logic_core.specs.declared.form.Atom.{Atom}
use Rattle.vernacular_tree.specs.Rules.{Closes}
use Rattle.vernacular_tree.specs.Sizes.{size, end_size}
use Rattle.vernacular_tree.proofs.Laws.{Cs_size}
use Rattle.vernacular_tree.specs.declared.context.Line.TheVariants.{Cases}
use Rattle.vernacular_tree.specs.declared.context.Context.{Context}
use Rattle.vernacular_tree.specs.declared.tree.Mp.{Mp}
use Rattle.coherent_form.specs.Tasks.{proof_task}
use Rattle.proof_text.specs.Printing.{printed_facts}
use Rattle.proof_text.specs.ScriptOf.{after_steps, lists_in}
use Rattle.proof_text.specs.Showing.{MaySteps, ListProves}
use Rattle.proof_text.proofs.Laws.{steps_may, steps_reach, dropped, taken_back as context_back, Cs_closes, branch_proves, line_same, facts_found, case_ready}
use Rattle.isar_text.specs.Bodies.{next_text}
use Rattle.isar_text.specs.KeptBranch.{IsKept, place_of, taken_back}
use Rattle.isar_text.specs.Named.{BodyFits}
use Rattle.isar_text.specs.Telling.{between, branch_text, branch_texts}
use Rattle.isar_text.specs.declared.branch.Branch.{Branch}
use Rattle.isar_text.proofs.BranchKept.{back_with}
use Rattle.isar_text.proofs.BranchesTold.{Cs_told, Cs_fits, case_told, next_branch, between_next}
use Rattle.isar_text.proofs.writer.+body.Goals as goal

pub put_body-put_steps-requires-clause-may : goal.put_body-put_steps-requires-clause-may
put_body-put_steps-requires-clause-may t c =
    let task = c.args.task.now in
    let body = c.args.body.now in
    subst (λ (steps : List Mp). MaySteps task steps c.args.branch.now.context) (sym c.as_slice.ensures)
    (steps_may task body.steps (Closes (proof_task task) body.end) c.args.branch.now.context c.requires.proves)

pub put_body-put_end-requires : goal.put_body-put_end-requires
put_body-put_end-requires t c =
    let task = c.args.task.now in
    let body = c.args.body.now in
    let context = c.args.branch.now.context in
    let after = c.in_ok-put_steps.ensures.after ∙ ap (λ (steps : List Mp). after_steps task steps context) c.as_slice.ensures in (
      omega arith,
      (
        c.in_ok-put_steps.ensures.kept,
        subst (Closes (proof_task task) body.end) (sym after) (steps_reach task body.steps (Closes (proof_task task) body.end) context c.requires.proves),
      ),
    )

pub put_body-returns-clause-same : goal.put_body-returns-clause-same
put_body-returns-clause-same t c =
    let task = c.args.task.now in
    let body = c.args.body.now in
    let branch = c.args.branch.now in
    let context = branch.context in
    let last = c.put_steps.new.branch in
    let after = c.in_ok-put_steps.ensures.after ∙ ap (λ (steps : List Mp). after_steps task steps context) c.as_slice.ensures in
    c.back.ensures ∙ (λ i. taken_back (c.place-place.ensures i) (c.in_ok-put_end.ensures.same i))
    ∙ back_with branch last (context_back task body.steps context last.context (length context.lines) (take (length context.lines) last.context.lines) after refl refl)
    c.in_ok-put_steps.ensures.grows

pub put_branch-returns-clause-text : goal.put_branch-returns-clause-text
put_branch-returns-clause-text t c =
    let task = c.args.task.now in
    case_told task c.args.level c.in_ok-number.number c.args.branch.now.context c.args.facts c.requires.inside c.in_ok-number.ensures c.as_slice-2.result.now
    (c.as_slice-2.ensures ∙ c.in_ok-named.ensures ∙ ap (printed_facts task) c.as_slice.ensures) c.add_case.new.self.context c.in_ok-add_case.ensures.after
    c.args.body.now c.args.out.now c.put_case_line.new.out c.put_body.new.out c.in_ok-put_case_line.ensures c.in_ok-put_body.ensures.text

pub put_cases-loop-case-init : goal.put_cases-loop-case-init
put_cases-loop-case-init t c =
    let task = c.args.task.now in
    let level = c.args.level in
    let context = c.args.branch.now.context in
    let lists : List (List Atom) = lists_in (slice_get context.lines c.args.line) in record {
      same = refl;
      prove = subst (λ (ls : List (List Atom)). ListProves task c.args.bodies.now ls context)
          (sym (ap lists_in c.requires.prove.1)) c.requires.prove.2;
      fits = λ h. h;
      inner = c.in_ok-inner.ensures;
      text = ap (λ (ts : Text). c.args.out.now ++ ts) (sym (joined_led (next_text level) (branch_texts (level + 1) task context c.args.bodies.now lists)));
    }

pub put_cases-case_facts-requires : goal.put_cases-case_facts-requires
put_cases-case_facts-requires t c =
    let task = c.args.task.now in
    let context = c.args.branch.now.context in
    let bodies = c.args.bodies.now in
    let n = c.loop-case.case in
    let so_far = c.loop-case.invariant in
    let body = c.index-bodies-case.result in
    let lists : List (List Atom) = lists_in (slice_get context.lines c.args.line) in
    let is : slice_get context.lines c.args.line ≡ Some (Cases lists)
    = c.requires.prove.1 ∙ ap (λ (ls : List (List Atom)). Some (Cases ls)) (sym (ap lists_in c.requires.prove.1)) in
    let left = dropped bodies n body c.loop-case-test.true c.index-bodies-case.is in
    let h = branch_proves task context n body (drop (n + 1) bodies) (drop n bodies) left lists so_far.prove in
    let same = ap (λ (b : Branch). b.context) so_far.same in (
      lists,
      h.0,
      line_same task context n body (drop (n + 1) bodies) (drop n bodies) left lists c.args.line is c.loop-case.branch.context same,
      h.1,
    )

pub put_cases-put_branch-requires : goal.put_cases-put_branch-requires
put_cases-put_branch-requires t c =
    let task = c.args.task.now in
    let context = c.args.branch.now.context in
    let bodies = c.args.bodies.now in
    let n = c.loop-case.case in
    let so_far = c.loop-case.invariant in
    let body = c.index-bodies-case.result in
    let lists : List (List Atom) = lists_in (slice_get context.lines c.args.line) in
    let is : slice_get context.lines c.args.line ≡ Some (Cases lists)
    = c.requires.prove.1 ∙ ap (λ (ls : List (List Atom)). Some (Cases ls)) (sym (ap lists_in c.requires.prove.1)) in
    let left = dropped bodies n body c.loop-case-test.true c.index-bodies-case.is in
    let same = ap (λ (b : Branch). b.context) so_far.same in
    let at = facts_found task context n body (drop (n + 1) bodies) (drop n bodies) left lists c.args.line is c.loop-case.branch.context same
    c.in_ok-facts.facts c.in_ok-facts.ensures in
    let small : size body ≤ sum_by size bodies
    = rw (← c.index-bodies-case.is) at (get_or-le-sum_by size bodies n body c.loop-case-test.true) in
    let ready = case_ready task context n body (drop (n + 1) bodies) (drop n bodies) left lists c.args.line is c.loop-case.branch.context same
    c.requires.kept.inside so_far.prove c.in_ok-facts.facts at in (
      omega arith,
      (subst (IsKept task) (sym so_far.same) c.requires.kept, ready),
    )

pub put_cases-loop-case-preserved : goal.put_cases-loop-case-preserved
put_cases-loop-case-preserved t c =
    let task = c.args.task.now in
    let level = c.args.level in
    let context = c.args.branch.now.context in
    let bodies = c.args.bodies.now in
    let n = c.loop-case.case in
    let so_far = c.loop-case.invariant in
    let body = c.index-bodies-case.result in
    let lists : List (List Atom) = lists_in (slice_get context.lines c.args.line) in
    let is : slice_get context.lines c.args.line ≡ Some (Cases lists)
    = c.requires.prove.1 ∙ ap (λ (ls : List (List Atom)). Some (Cases ls)) (sym (ap lists_in c.requires.prove.1)) in
    let left = dropped bodies n body c.loop-case-test.true c.index-bodies-case.is in
    let same = ap (λ (b : Branch). b.context) so_far.same in
    let at = facts_found task context n body (drop (n + 1) bodies) (drop n bodies) left lists c.args.line is c.loop-case.branch.context same
    c.in_ok-facts.facts c.in_ok-facts.ensures in
    let h = branch_proves task context n body (drop (n + 1) bodies) (drop n bodies) left lists so_far.prove in record {
      same = c.in_ok-put_branch.ensures.same ∙ so_far.same;
      prove = h.3;
      fits = λ more. so_far.fits (subst (AllByRecursion BodyFits) (sym left) (c.in_ok-put_branch.ensures.fits, more));
      inner = so_far.inner;
      text = next_branch task (level + 1) context n body (drop (n + 1) bodies) (drop n bodies) left lists c.in_ok-facts.facts at (between level n)
          (between level (n + 1)) (next_text level) c.loop-case.out c.put_between.new.out c.put_branch.new.out
          (c.args.out.now ++ joined_texts (next_text level) (branch_texts (level + 1) task context bodies lists)) (between_next level n) c.in_ok-put_between.ensures
          (c.in_ok-put_branch.ensures.text
          ∙ (λ i. c.put_between.new.out ++ branch_text (so_far.inner i) task (same i) body c.in_ok-facts.facts))
          so_far.text;
    }

pub put_end-put_cases-requires : goal.put_end-put_cases-requires
put_end-put_cases-requires t c =
    let whole : end_size c.args.end.now ≡ 1 + sum_by size c.in-Cs.branches = ap end_size c.in-Cs.is ∙ Cs_size c.in-Cs.line c.in-Cs.branches in
    let items : sum_by size c.as_slice-in-Cs.result.now ≡ sum_by size c.in-Cs.branches = ap (sum_by size) c.as_slice-in-Cs.ensures in (
      omega arith,
      (
        c.requires.kept,
        Cs_closes c.args.task.now c.args.branch.now.context c.args.end.now c.in-Cs.line c.in-Cs.branches c.as_slice-in-Cs.result.now c.in-Cs.is
            c.as_slice-in-Cs.ensures c.requires.closes,
      ),
    )

pub put_end-returns-in_ok-put_cases-in-Cs-clause-text : goal.put_end-returns-in_ok-put_cases-in-Cs-clause-text
put_end-returns-in_ok-put_cases-in-Cs-clause-text t c =
    on_ok_weaker c.put_close.result
    (Cs_told c.args.task.now c.args.level c.args.branch.now.context c.args.end.now c.in-Cs.line c.in-Cs.branches c.as_slice-in-Cs.result.now c.args.out.now
    c.put_split.new.out c.put_cases.new.out c.put_close.new.out c.in-Cs.is c.as_slice-in-Cs.ensures c.in_ok-put_split-in-Cs.ensures
    c.in_ok-put_cases-in-Cs.ensures.text)
    c.put_close.ensures

pub put_end-returns-in_ok-put_cases-in-Cs-clause-fits : goal.put_end-returns-in_ok-put_cases-in-Cs-clause-fits
put_end-returns-in_ok-put_cases-in-Cs-clause-fits t c =
    on_ok_weaker c.put_close.result
    (λ e. Cs_fits c.args.end.now c.in-Cs.line c.in-Cs.branches c.as_slice-in-Cs.result.now c.in-Cs.is c.as_slice-in-Cs.ensures c.in_ok-put_cases-in-Cs.ensures.fits)
    c.put_close.ensures
