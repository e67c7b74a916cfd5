use Rattle.std.proofs.Common.{◌≡◌, ℕ, ◌+◌, ◌<◌, [], ◌∷◌, map, length, sym, ap, ◌∙◌, subst, arith, length-append}
use Rattle.std.proofs.lemmas.Result.{IfErr-weaker, on_ok_weaker}
use Rattle.vernacular_tree.specs.declared.tree.Node.TheVariants as node
use Rattle.proof_text.specs.declared.body.EndText.{As, Efq, Gap, Cs}
use Rattle.proof_text.specs.Sizes.{end_size}
use Rattle.proof_text.specs.Branches.{Branch, with_case}
use Rattle.proof_checker.specs.Faults.{IsRefusedAt, SplitFault, EndFault}
use Rattle.proof_checker.specs.Kept.{atom_seen, branch_of}
use Rattle.proof_checker.specs.Opened.{BodyOpens}
use Rattle.proof_checker.specs.Running.{RefusesBy, BodyFault, CasesFail, Adds, sizes_of}
use Rattle.proof_checker.specs.declared.fact.HeldLine.TheVariants.{Facts}
use Rattle.proof_checker.specs.declared.open_node.OpenNode.TheVariants as open_node
use Rattle.proof_checker.specs.declared.refusal.Rule.TheVariants as rule
use Rattle.proof_checker.proofs.Cased.{shown_of, Cs_sizes, sizes_next, cases_count, case_facts, case_branch, cases_added_next, cases_fault_at, split_fault, split_case_fault, split_added, end_added}
use Rattle.proof_checker.proofs.Running.{refused_by, refuses_so, body_added, run_end_fault, steps_added_long, grows_more, line_grows, cut_back}
use Rattle.proof_checker.proofs.Sized.{body_added_long}
use Rattle.proof_checker.proofs.Stepped.{handed_on}
use Rattle.proof_checker.proofs.checker.+check.Goals as goal
use Rattle.proof_checker.proofs.checker.+check.Goals.{check_end-in-As+in_ok-node-in-As, check_end-in-Efq+in_ok-node-in-Efq, check_end-in-Gap+in_ok-node-in-Gap}

pub check_body-returns-in_err-check_steps-clause-err :
    goal.check_body-returns-in_err-check_steps-clause-err
check_body-returns-in_err-check_steps-clause-err t c =
    let Fault = RefusesBy (BodyFault c.args.task.now c.args.gaps c.args.text.now (length c.args.nodes.now + 1) (branch_of c.args.trail.now)) in
    handed_on c.from_residual.result _ _ (λ refusal same. subst Fault (sym same) (c.in_err-check_steps.ensures.err c.args.gaps)) c.from_residual.ensures.1

pub check_body-check_end-requires : goal.check_body-check_end-requires
check_body-check_end-requires t c =
    let run = c.in_ok-check_steps.ensures.ok in
    let long = steps_added_long c.args.task.now c.args.text.now.steps c.args.trail.now c.check_steps.new.trail c.args.nodes.now c.check_steps.new.nodes run in
    let few = c.requires.few in
    (omega arith, (run.kept, omega (arith, long, few)))

pub check_body-returns-clause-ok : goal.check_body-returns-clause-ok
check_body-returns-clause-ok t c = on_ok_weaker c.check_end.result
    (body_added c.args.task.now c.args.gaps c.args.text.now c.args.trail.now c.check_steps.new.trail c.args.nodes.now c.check_steps.new.nodes c.check_end.new.nodes
    c.in_ok-check_steps.ensures.ok) c.check_end.ensures.ok

pub check_body-returns-clause-err : goal.check_body-returns-clause-err
check_body-returns-clause-err t c = IfErr-weaker c.check_end.result _ _ (refuses_so _ _
    (λ refusal. run_end_fault c.args.task.now c.args.gaps c.args.text.now c.args.trail.now c.check_steps.new.trail c.args.nodes.now c.check_steps.new.nodes refusal
    c.in_ok-check_steps.ensures.ok)) c.check_end.ensures.err

pub check_cases-returns-in_err-check_body-clause-err :
    goal.check_cases-returns-in_err-check_body-clause-err
check_cases-returns-in_err-check_body-clause-err t c =
    let task = c.args.task.now in
    let gaps = c.args.gaps in
    let old = c.args.trail.now in
    let cases = c.args.cases.now in
    let case = c.index-cases-at.result in
    let inv = c.loop-at.invariant in
    let before = c.args.nodes.now in
    let between = c.loop-at.nodes in
    let has = rw inv.same at c.in_ok-enter_case.ensures in
    let facts = map atom_seen has.1 in
    let told = rw (case_branch old c.enter_case.new.trail c.args.line c.loop-at.at has) at c.in_err-check_body.ensures.err in
    handed_on c.from_residual-in_err-check_body.result _ _ (λ refusal same lists split.
    subst (RefusesBy (CasesFail task gaps cases lists (length before + 1) (branch_of old))) (sym same)
    (refuses_so (BodyFault task gaps case.body (length between + 1) (with_case (branch_of old) facts)) (CasesFail task gaps cases lists (length before + 1) (branch_of old))
    (λ refusal fault. cases_fault_at task gaps c.citations_differ.ensures cases c.loop-at.at case lists (branch_of old) facts before between refusal
    c.loop-at-test.true c.index-cases-at.is (case_facts task old c.enter_case.new.trail cases c.args.line c.loop-at.at lists has split) (inv.added lists split) inv.many fault)
    c.in_err-check_body.field-0.0 told)) c.from_residual-in_err-check_body.ensures.1

pub check_cases-loop-at-preserved : goal.check_cases-loop-at-preserved
check_cases-loop-at-preserved t c =
    let task = c.args.task.now in
    let gaps = c.args.gaps in
    let old = c.args.trail.now in
    let cases = c.args.cases.now in
    let case = c.index-cases-at.result in
    let inv = c.loop-at.invariant in
    let before = c.args.nodes.now in
    let between = c.loop-at.nodes in
    let after = c.check_body.new.nodes in
    let has = rw inv.same at c.in_ok-enter_case.ensures in
    let facts = map atom_seen has.1 in
    let grows = grows_more old c.enter_case.new.trail c.check_body.new.trail (line_grows (Facts has.1) old c.enter_case.new.trail has.4) c.in_ok-check_body.ensures.grows in
    let here = subst (λ (b : Branch). Adds (λ more. BodyOpens task gaps case.body more b) between after)
    (case_branch old c.enter_case.new.trail c.args.line c.loop-at.at has) c.in_ok-check_body.ensures.ok in
    let sizes = (sizes_next cases c.loop-at.at case c.loop-at-test.true c.index-cases-at.is).0 in
    let long = body_added_long task gaps case.body (with_case (branch_of old) facts) between after here in
    let many = inv.many in
    record {
      same = rw c.point-point.ensures at c.back.ensures ∙ cut_back old c.check_body.new.trail grows;
      added = λ lists split. cases_added_next task gaps cases c.loop-at.at case lists (branch_of old) facts before between after c.loop-at-test.true c.index-cases-at.is
          (case_facts task old c.enter_case.new.trail cases c.args.line c.loop-at.at lists has split) (inv.added lists split) here;
      many = omega (arith, sizes, long, many);
    }

pub check_end-end_by_split-requires : goal.check_end-end_by_split-requires
check_end-end_by_split-requires t c =
    let end : end_size c.args.end.now ≡ 1 + sizes_of c.in-Cs.cases = ap end_size c.in-Cs.is ∙ Cs_sizes c.in-Cs.line c.in-Cs.cases in
    let cases : sizes_of c.as_slice-in-Cs.result.now ≡ sizes_of c.in-Cs.cases = ap sizes_of c.as_slice-in-Cs.ensures in
    let few : length c.args.nodes.now + end_size c.args.end.now + 1 < 4294967296 = c.requires.few in
    (omega arith, (c.requires.kept, omega arith))

pub check_end-returns-clause-ok : goal.check_end-returns-clause-ok
check_end-returns-clause-ok t c =
    let added = end_added c.args.task.now c.args.gaps c.args.end.now in
    let now = branch_of c.args.trail.now in
    let pushed = c.in_ok-push.ensures.ok in
    elim c.match-end.branch [
      | check_end-in-As+in_ok-node-in-As w ↦ added (As w.in-As.disjunct w.as_slice.result.now) now c.match-end.node w.in_ok-node-in-As.node c.args.nodes.now c.push.new.self
          (w.in-As.is ∙ ap (As w.in-As.disjunct) (sym w.as_slice.ensures)) w.node-is w.in_ok-node-in-As.ensures.ok pushed
      | check_end-in-Efq+in_ok-node-in-Efq w ↦ added Efq now c.match-end.node w.in_ok-node-in-Efq.node c.args.nodes.now c.push.new.self
          w.in-Efq.is w.node-is w.in_ok-node-in-Efq.ensures.ok pushed
      | check_end-in-Gap+in_ok-node-in-Gap w ↦ added (Gap w.in-Gap.within) now c.match-end.node w.in_ok-node-in-Gap.node c.args.nodes.now c.push.new.self
          w.in-Gap.is w.node-is w.in_ok-node-in-Gap.ensures.ok pushed
    ]

pub end_by_split-check_split-requires : goal.end_by_split-check_split-requires
end_by_split-check_split-requires t c = let count = cases_count c.args.cases.now in let few = c.requires.few in omega (arith, count, few)

pub end_by_split-returns-in-Err-clause-err : goal.end_by_split-returns-in-Err-clause-err
end_by_split-returns-in-Err-clause-err t c =
    let task = c.args.task.now in
    let gaps = c.args.gaps in
    let now = branch_of c.args.trail.now in
    let cases = c.args.cases.now in
    let number = c.next_number.result in
    subst (λ (n : ℕ). RefusesBy (EndFault task gaps (Cs c.args.line cases) n now) c.refused.result) c.next_number.ensures
    (refuses_so (IsRefusedAt number rule.Cs (SplitFault task now c.args.line (shown_of cases))) (EndFault task gaps (Cs c.args.line cases) number now)
    (λ refusal told. split_fault task gaps c.args.line number cases now refusal told) c.refused.result
    (refused_by (SplitFault task now c.args.line (shown_of cases)) number rule.Cs c.in-Err.halt c.refused.result c.refused.ensures c.in-Err.ensures.err))

pub end_by_split-overflow_cast-branches : goal.end_by_split-overflow_cast-branches
end_by_split-overflow_cast-branches t c = let count = cases_count c.args.cases.now in let few = c.requires.few in omega (arith, count, few)

pub end_by_split-returns-clause-ok : goal.end_by_split-returns-clause-ok
end_by_split-returns-clause-ok t c =
    let split = c.in_default.ensures.ok in
    on_ok_weaker c.check_cases.result (λ added. split_added c.args.task.now c.args.gaps c.args.line c.args.cases.now (branch_of c.args.trail.now) split.0
    c.args.nodes.now c.push.new.self c.check_cases.new.nodes split.1 c.in_ok-push.ensures.ok (added split.0 split.1)) c.check_cases.ensures.ok

pub end_by_split-returns-clause-err : goal.end_by_split-returns-clause-err
end_by_split-returns-clause-err t c =
    let task = c.args.task.now in
    let gaps = c.args.gaps in
    let now = branch_of c.args.trail.now in
    let cases = c.args.cases.now in
    let split = c.in_default.ensures.ok in
    let longer = ap length c.in_ok-push.ensures.ok ∙ length-append c.args.nodes.now (open_node.Rule (node.Cs c.args.line (length cases)) ∷ []) in
    let number : length c.push.new.self + 1 ≡ length c.args.nodes.now + 1 + 1 = omega (arith, longer) in
    IfErr-weaker c.check_cases.result _ _ (λ refusal told. refuses_so _ _ (λ step fault. split_case_fault task gaps c.args.line (length c.args.nodes.now + 1) cases now split.0 step split.1
    (subst (λ (n : ℕ). CasesFail task gaps cases split.0 n now step) number fault)) refusal (told split.0 split.1)) c.check_cases.ensures.err
