use Rattle.std.proofs.Common.{ap, ◌∙◌}
use Rattle.kept_context.specs.Kept.{Kept}
use Rattle.kept_context.specs.Cased.{lines_seen, count_at}
use Rattle.kept_context.proofs.Casing.{cases_some, cases_none}
use Rattle.kept_context.proofs.kept.KeptContext.cases.Goals as goal

pub returns-clause-some : goal.returns-clause-some
returns-clause-some c =
    let kept = c.args.self.now in
    let lines = c.as_slice-2.ensures.value ∙ ap (λ (k : Kept). k.lines) c.self.view_is in
    cases_some c.args.task.now c.args.lent.now kept c.args.line c.case_count.result (c.case_count.ensures kept.values
    ∙ (λ i. count_at (lines_seen c.args.task.now (c.as_slice.ensures i) kept.values (lines i)) c.args.line))

pub returns-clause-none : goal.returns-clause-none
returns-clause-none c =
    let kept = c.args.self.now in
    let lines = c.as_slice-2.ensures.value ∙ ap (λ (k : Kept). k.lines) c.self.view_is in
    cases_none c.args.task.now c.args.lent.now kept c.args.line c.case_count.result (c.case_count.ensures kept.values
    ∙ (λ i. count_at (lines_seen c.args.task.now (c.as_slice.ensures i) kept.values (lines i)) c.args.line))
