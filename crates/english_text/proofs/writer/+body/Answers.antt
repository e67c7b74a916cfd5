use Rattle.std.proofs.Common.{◌≡◌, ◌+◌, ◌≤◌, ◌++◌, List, drop, slice_get, sum_by, Some, sym, ◌∙◌, ap, subst, arith}
use Rattle.std.proofs.lemmas.Result.{on_ok_weaker}
use Rattle.std.proofs.lemmas.List.Sums.{get_or-le-sum_by}
use Rattle.logic_core.specs.declared.form.Atom.{Atom}
use Rattle.vernacular_tree.specs.Rules.{Closes}
use Rattle.vernacular_tree.specs.Sizes.{size, end_size}
use Rattle.vernacular_tree.proofs.Laws.{Cs_size}
use Rattle.vernacular_tree.specs.declared.context.Line.TheVariants.{Cases}
use Rattle.vernacular_tree.specs.declared.context.Context.{Context}
use Rattle.vernacular_tree.specs.declared.tree.Mp.{Mp}
use Rattle.coherent_form.specs.Tasks.{proof_task}
use Rattle.proof_text.specs.ScriptOf.{after_steps, lists_in}
use Rattle.proof_text.specs.Showing.{MaySteps}
use Rattle.proof_text.proofs.Laws.{steps_may, steps_reach, dropped, taken_back, Cs_closes, branch_proves, line_same, facts_found, case_ready}
use Rattle.english_text.specs.English.{steps_text, end_text}
use Rattle.english_text.specs.Telling.{branch_text, branches_text}
use Rattle.english_text.proofs.BranchesTold.{Cs_told, next_branch}
use Rattle.english_text.proofs.Pushed.{two_pushed}
use Rattle.english_text.proofs.writer.+body.Goals as goal

pub put_body-put_steps-requires-clause-may : goal.put_body-put_steps-requires-clause-may
put_body-put_steps-requires-clause-may t c =
    let task = c.args.task.now in
    let body = c.args.body.now in
    subst (λ (steps : List Mp). MaySteps task steps c.args.context.now) (sym c.as_slice.ensures)
    (steps_may task body.steps (Closes (proof_task task) body.end) c.args.context.now c.requires.proves)

pub put_body-put_end-requires : goal.put_body-put_end-requires
put_body-put_end-requires t c =
    let task = c.args.task.now in
    let body = c.args.body.now in
    let after = c.in_ok-put_steps.ensures.after ∙ ap (λ (steps : List Mp). after_steps task steps c.args.context.now) c.as_slice.ensures in (
      omega arith,
      (
        c.in_ok-put_steps.ensures.inside,
        subst (Closes (proof_task task) body.end) (sym after) (steps_reach task body.steps (Closes (proof_task task) body.end) c.args.context.now c.requires.proves),
      ),
    )

pub put_body-returns-clause-kept : goal.put_body-returns-clause-kept
put_body-returns-clause-kept t c =
    let task = c.args.task.now in
    let body = c.args.body.now in
    let after = c.in_ok-put_steps.ensures.after ∙ ap (λ (steps : List Mp). after_steps task steps c.args.context.now) c.as_slice.ensures in
    taken_back task body.steps c.args.context.now c.put_end.new.context c.len-lines.result c.truncate.new.self (c.in_ok-put_end.ensures.kept ∙ after)
    c.len-lines.ensures c.truncate.ensures

pub put_branches-case_facts-requires : goal.put_branches-case_facts-requires
put_branches-case_facts-requires t c =
    let task = c.args.task.now in
    let context = c.args.context.now in
    let branches = c.args.branches.now in
    let n = c.loop-case.case in
    let so_far = c.loop-case.invariant in
    let lists : List (List Atom) = lists_in (slice_get context.lines c.args.line) in
    let is : slice_get context.lines c.args.line ≡ Some (Cases lists)
    = c.requires.prove.1 ∙ ap (λ (ls : List (List Atom)). Some (Cases ls)) (sym (ap lists_in c.requires.prove.1)) in
    let left = dropped branches n c.index-branches-case.result c.loop-case-test.true c.index-branches-case.is in
    let h = branch_proves task context n c.index-branches-case.result (drop (n + 1) branches) (drop n branches) left lists so_far.prove in (
      lists,
      h.0,
      line_same task context n c.index-branches-case.result (drop (n + 1) branches) (drop n branches) left lists c.args.line is c.loop-case.context so_far.same,
      h.1,
    )

pub put_branches-put_branch-requires : goal.put_branches-put_branch-requires
put_branches-put_branch-requires t c =
    let task = c.args.task.now in
    let context = c.args.context.now in
    let branches = c.args.branches.now in
    let n = c.loop-case.case in
    let so_far = c.loop-case.invariant in
    let lists : List (List Atom) = lists_in (slice_get context.lines c.args.line) in
    let is : slice_get context.lines c.args.line ≡ Some (Cases lists)
    = c.requires.prove.1 ∙ ap (λ (ls : List (List Atom)). Some (Cases ls)) (sym (ap lists_in c.requires.prove.1)) in
    let left = dropped branches n c.index-branches-case.result c.loop-case-test.true c.index-branches-case.is in
    let at = facts_found task context n c.index-branches-case.result (drop (n + 1) branches) (drop n branches) left lists c.args.line is c.loop-case.context
    so_far.same c.in_ok-facts.facts c.in_ok-facts.ensures in
    let small : size c.index-branches-case.result ≤ sum_by size branches
    = rw (← c.index-branches-case.is) at (get_or-le-sum_by size branches n c.index-branches-case.result c.loop-case-test.true) in (
      omega arith,
      case_ready task context n c.index-branches-case.result (drop (n + 1) branches) (drop n branches) left lists c.args.line is c.loop-case.context so_far.same
          c.requires.inside so_far.prove c.in_ok-facts.facts at,
    )

pub put_branches-loop-case-preserved : goal.put_branches-loop-case-preserved
put_branches-loop-case-preserved t c =
    let task = c.args.task.now in
    let level = c.args.level in
    let context = c.args.context.now in
    let branches = c.args.branches.now in
    let n = c.loop-case.case in
    let so_far = c.loop-case.invariant in
    let lists : List (List Atom) = lists_in (slice_get context.lines c.args.line) in
    let is : slice_get context.lines c.args.line ≡ Some (Cases lists)
    = c.requires.prove.1 ∙ ap (λ (ls : List (List Atom)). Some (Cases ls)) (sym (ap lists_in c.requires.prove.1)) in
    let left = dropped branches n c.index-branches-case.result c.loop-case-test.true c.index-branches-case.is in
    let at = facts_found task context n c.index-branches-case.result (drop (n + 1) branches) (drop n branches) left lists c.args.line is c.loop-case.context
    so_far.same c.in_ok-facts.facts c.in_ok-facts.ensures in
    let h = branch_proves task context n c.index-branches-case.result (drop (n + 1) branches) (drop n branches) left lists so_far.prove in record {
      same = c.in_ok-put_branch.ensures.kept ∙ so_far.same;
      prove = h.3;
      text = next_branch task level context n c.index-branches-case.result (drop (n + 1) branches) (drop n branches) left lists c.in_ok-facts.facts at
          c.loop-case.out c.put_branch.new.out (c.args.out.now ++ branches_text task level context branches lists)
          (c.in_ok-put_branch.ensures.text
          ∙ ap (λ (b : Context). c.loop-case.out ++ branch_text task level b c.index-branches-case.result c.in_ok-facts.facts) so_far.same)
          so_far.text;
    }

pub put_end-put_branches-requires : goal.put_end-put_branches-requires
put_end-put_branches-requires t c =
    let whole : end_size c.args.end.now ≡ 1 + sum_by size c.in-Cs.branches = ap end_size c.in-Cs.is ∙ Cs_size c.in-Cs.line c.in-Cs.branches in
    let items : sum_by size c.as_slice-in-Cs.result.now ≡ sum_by size c.in-Cs.branches = ap (sum_by size) c.as_slice-in-Cs.ensures in (
      omega arith,
      (
        c.requires.inside,
        Cs_closes c.args.task.now c.args.context.now c.args.end.now c.in-Cs.line c.in-Cs.branches c.as_slice-in-Cs.result.now c.in-Cs.is
            c.as_slice-in-Cs.ensures c.requires.closes,
      ),
    )

pub put_end-returns-in_ok-put_split_line-in-Cs-clause-text : goal.put_end-returns-in_ok-put_split_line-in-Cs-clause-text
put_end-returns-in_ok-put_split_line-in-Cs-clause-text t c =
    on_ok_weaker c.put_branches.result
    (Cs_told c.args.task.now c.args.level c.args.context.now c.args.end.now c.in-Cs.line c.in-Cs.branches c.as_slice-in-Cs.result.now c.args.out.now
    c.put_split_line.new.out c.put_branches.new.out c.in-Cs.is c.as_slice-in-Cs.ensures c.in_ok-put_split_line-in-Cs.ensures)
    c.put_branches.ensures.text

pub put_body-returns-clause-text : goal.put_body-returns-clause-text
put_body-returns-clause-text t c =
    let task = c.args.task.now in
    let level = c.args.level in
    let body = c.args.body.now in
    let context = c.args.context.now in
    let after = c.in_ok-put_steps.ensures.after ∙ ap (λ (steps : List Mp). after_steps task steps context) c.as_slice.ensures in
    two_pushed c.args.out.now c.put_steps.new.out c.put_end.new.out (steps_text task level body.steps context)
    (end_text task level body.end (after_steps task body.steps context))
    (c.in_ok-put_steps.ensures.text ∙ ap (λ (steps : List Mp). c.args.out.now ++ steps_text task level steps context) c.as_slice.ensures)
    (c.in_ok-put_end.ensures.text ∙ ap (λ (b : Context). c.put_steps.new.out ++ end_text task level body.end b) after)
