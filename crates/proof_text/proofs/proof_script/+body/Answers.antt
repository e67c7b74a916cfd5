use Rattle.std.proofs.Common.{◌≡◌, ◌+◌, ◌≤◌, List, drop, slice_get, sum_by, Some, sym, ◌∙◌, ap, subst, arith}
use Rattle.std.proofs.lemmas.List.Sums.{get_or-le-sum_by}
use Rattle.logic_core.specs.declared.form.Atom.{Atom}
use Rattle.vernacular_tree.specs.Rules.{Closes}
use Rattle.vernacular_tree.specs.Sizes.{size, end_size}
use Rattle.vernacular_tree.proofs.Laws.{Cs_size}
use Rattle.vernacular_tree.specs.declared.context.Line.TheVariants.{Cases}
use Rattle.vernacular_tree.specs.declared.context.Context.{Context}
use Rattle.vernacular_tree.specs.declared.tree.Mp.{Mp}
use Rattle.coherent_form.specs.Tasks.{proof_task}
use Rattle.proof_text.specs.ScriptOf.{after_steps, lists_in}
use Rattle.proof_text.specs.Showing.{MaySteps, case_of, each_case}
use Rattle.proof_text.specs.Printing.{printed_facts}
use Rattle.proof_text.proofs.Inside.{steps_may, steps_reach}
use Rattle.proof_text.proofs.StepWritten.{dropped}
use Rattle.proof_text.proofs.BodyWritten.{taken_back, Cs_written, Cs_closes, branch_proves, next_case, line_same, facts_found, case_ready, case_written}
use Rattle.proof_text.proofs.proof_script.+body.Goals as goal

pub body_of-steps_of-requires-clause-may : goal.body_of-steps_of-requires-clause-may
body_of-steps_of-requires-clause-may t c =
    let task = c.args.task.now in
    let body = c.args.body.now in
    subst (λ (steps : List Mp). MaySteps task steps c.args.context.now) (sym c.as_slice.ensures)
    (steps_may task body.steps (Closes (proof_task task) body.end) c.args.context.now c.requires.proves)

pub body_of-end_of-requires : goal.body_of-end_of-requires
body_of-end_of-requires t c =
    let task = c.args.task.now in
    let body = c.args.body.now in
    let after = c.in_ok-steps.ensures.after ∙ ap (λ (steps : List Mp). after_steps task steps c.args.context.now) c.as_slice.ensures in (
      omega arith,
      (
        c.in_ok-steps.ensures.inside,
        subst (Closes (proof_task task) body.end) (sym after) (steps_reach task body.steps (Closes (proof_task task) body.end) c.args.context.now c.requires.proves),
      ),
    )

pub body_of-returns-clause-kept : goal.body_of-returns-clause-kept
body_of-returns-clause-kept t c =
    let task = c.args.task.now in
    let body = c.args.body.now in
    let after = c.in_ok-steps.ensures.after ∙ ap (λ (steps : List Mp). after_steps task steps c.args.context.now) c.as_slice.ensures in
    taken_back task body.steps c.args.context.now c.end_of.new.context c.len-lines.result c.truncate.new.self (c.in_ok-end.ensures.kept ∙ after)
    c.len-lines.ensures c.truncate.ensures

pub case_of-returns-clause-text : goal.case_of-returns-clause-text
case_of-returns-clause-text t c =
    let context = c.args.context.now in
    case_written c.args.edition c.args.task.now context (record { elements = context.elements; lines = c.push.new.self }) c.args.branch.now c.args.facts
    c.in_ok-shown.shown c.in_ok-body.body c.requires.inside (λ i. record { elements = context.elements; lines = c.in_ok-push.ensures.ok i })
    (c.in_ok-shown.ensures ∙ ap (printed_facts c.args.task.now) c.as_slice.ensures) c.in_ok-body.ensures.text

pub cases_of-case_facts-requires : goal.cases_of-case_facts-requires
cases_of-case_facts-requires t c =
    let task = c.args.task.now in
    let context = c.args.context.now in
    let branches = c.args.branches.now in
    let n = c.loop-case.case in
    let so_far = c.loop-case.invariant in
    let lists : List (List Atom) = lists_in (slice_get context.lines c.args.line) in
    let is : slice_get context.lines c.args.line ≡ Some (Cases lists)
    = c.requires.prove.1 ∙ ap (λ (ls : List (List Atom)). Some (Cases ls)) (sym (ap lists_in c.requires.prove.1)) in
    let left = dropped branches n c.index-branches-case.result c.loop-case-test.true c.index-branches-case.is in
    let h = branch_proves task context n c.index-branches-case.result (drop (n + 1) branches) (drop n branches) left lists so_far.prove in (
      lists,
      h.0,
      line_same task context n c.index-branches-case.result (drop (n + 1) branches) (drop n branches) left lists c.args.line is c.loop-case.context so_far.same,
      h.1,
    )

pub cases_of-case_of-requires : goal.cases_of-case_of-requires
cases_of-case_of-requires t c =
    let task = c.args.task.now in
    let context = c.args.context.now in
    let branches = c.args.branches.now in
    let n = c.loop-case.case in
    let so_far = c.loop-case.invariant in
    let lists : List (List Atom) = lists_in (slice_get context.lines c.args.line) in
    let is : slice_get context.lines c.args.line ≡ Some (Cases lists)
    = c.requires.prove.1 ∙ ap (λ (ls : List (List Atom)). Some (Cases ls)) (sym (ap lists_in c.requires.prove.1)) in
    let left = dropped branches n c.index-branches-case.result c.loop-case-test.true c.index-branches-case.is in
    let at = facts_found task context n c.index-branches-case.result (drop (n + 1) branches) (drop n branches) left lists c.args.line is c.loop-case.context
    so_far.same c.in_ok-facts.facts c.in_ok-facts.ensures in
    let small : size c.index-branches-case.result ≤ sum_by size branches
    = rw (← c.index-branches-case.is) at (get_or-le-sum_by size branches n c.index-branches-case.result c.loop-case-test.true) in (
      omega arith,
      case_ready task context n c.index-branches-case.result (drop (n + 1) branches) (drop n branches) left lists c.args.line is c.loop-case.context so_far.same
          c.requires.inside so_far.prove c.in_ok-facts.facts at,
    )

pub cases_of-loop-case-preserved : goal.cases_of-loop-case-preserved
cases_of-loop-case-preserved t c =
    let e = c.args.edition in
    let task = c.args.task.now in
    let context = c.args.context.now in
    let branches = c.args.branches.now in
    let n = c.loop-case.case in
    let so_far = c.loop-case.invariant in
    let lists : List (List Atom) = lists_in (slice_get context.lines c.args.line) in
    let is : slice_get context.lines c.args.line ≡ Some (Cases lists)
    = c.requires.prove.1 ∙ ap (λ (ls : List (List Atom)). Some (Cases ls)) (sym (ap lists_in c.requires.prove.1)) in
    let left = dropped branches n c.index-branches-case.result c.loop-case-test.true c.index-branches-case.is in
    let at = facts_found task context n c.index-branches-case.result (drop (n + 1) branches) (drop n branches) left lists c.args.line is c.loop-case.context
    so_far.same c.in_ok-facts.facts c.in_ok-facts.ensures in
    let h = branch_proves task context n c.index-branches-case.result (drop (n + 1) branches) (drop n branches) left lists so_far.prove in record {
      same = c.in_ok-case_of.ensures.kept ∙ so_far.same;
      prove = h.3;
      text = next_case task context n c.index-branches-case.result (drop (n + 1) branches) (drop n branches) left lists e c.loop-case.cases c.push.new.self
          (each_case e task context branches lists) c.in_ok-case_of.field-0 c.in_ok-facts.facts at
          (c.in_ok-case_of.ensures.text
          ∙ ap (λ (b : Context). case_of e task b c.index-branches-case.result c.in_ok-facts.facts) so_far.same)
          c.in_ok-push.ensures.ok so_far.text;
    }

pub end_of-cases_of-requires : goal.end_of-cases_of-requires
end_of-cases_of-requires t c =
    let whole : end_size c.args.end.now ≡ 1 + sum_by size c.in-Cs.branches = ap end_size c.in-Cs.is ∙ Cs_size c.in-Cs.line c.in-Cs.branches in
    let items : sum_by size c.as_slice-in-Cs.result.now ≡ sum_by size c.in-Cs.branches = ap (sum_by size) c.as_slice-in-Cs.ensures in (
      omega arith,
      (
        c.requires.inside,
        Cs_closes c.args.task.now c.args.context.now c.args.end.now c.in-Cs.line c.in-Cs.branches c.as_slice-in-Cs.result.now c.in-Cs.is
            c.as_slice-in-Cs.ensures c.requires.closes,
      ),
    )

pub end_of-returns-in_ok-cases_of-in-Cs-clause-text : goal.end_of-returns-in_ok-cases_of-in-Cs-clause-text
end_of-returns-in_ok-cases_of-in-Cs-clause-text t c =
    Cs_written c.args.edition c.args.task.now c.args.context.now c.args.end.now c.in-Cs.line c.in-Cs.branches c.as_slice-in-Cs.result.now
    c.in_ok-cases_of-in-Cs.field-0 c.in-Cs.is c.as_slice-in-Cs.ensures c.in_ok-cases_of-in-Cs.ensures.text
