use Rattle.std.proofs.Common.{Some, sym, ◌∙◌, ap, map}
use Rattle.proof_checker.specs.Kept.{atom_seen}
use Rattle.proof_checker.specs.declared.refusal.Why.TheVariants as why
use Rattle.proof_checker.proofs.Ended.{split_refused, cases_differ, case_differs, split_is}
use Rattle.proof_checker.proofs.finish.check_split.Goals as goal

pub returns-then-cases-len-clause-err : goal.returns-then-cases-len-clause-err
returns-then-cases-len-clause-err c =
    let at = sym c.in-Some-Cases.ensures ∙ ap Some c.in-Some-Cases.field-0-is in
    let lists = c.in-Some-Cases.lists in
    split_refused c.args.task.now c.args.trail.now c.args.line c.args.cases.now lists why.BranchCount at
    (cases_differ c.args.task.now c.args.trail.now c.args.cases.now lists (λ same. c.if-cases-len.true (same ∙ sym c.len.ensures)))

pub returns-in-Some-differing_case-clause-err : goal.returns-in-Some-differing_case-clause-err
returns-in-Some-differing_case-clause-err c =
    let at = sym c.in-Some-Cases.ensures ∙ ap Some c.in-Some-Cases.field-0-is in
    let lists = c.in-Some-Cases.lists in
    split_refused c.args.task.now c.args.trail.now c.args.line c.args.cases.now lists (why.CaseDiffers c.in-Some-differing_case.case) at
    (case_differs c.args.task.now c.args.trail.now c.args.cases.now lists c.in-Some-differing_case.case (c.if-cases-len.false ∙ c.len.ensures)
    (rw c.as_slice.ensures at c.in-Some-differing_case.ensures))

pub returns-in-None-differing_case-clause-ok : goal.returns-in-None-differing_case-clause-ok
returns-in-None-differing_case-clause-ok c =
    let at = sym c.in-Some-Cases.ensures ∙ ap Some c.in-Some-Cases.field-0-is in
    let lists = c.in-Some-Cases.lists in (
      map (map atom_seen) lists,
      split_is c.args.task.now c.args.trail.now c.args.line c.args.cases.now lists at (c.if-cases-len.false ∙ c.len.ensures)
          (rw c.as_slice.ensures at c.in-None-differing_case.ensures),
    )
