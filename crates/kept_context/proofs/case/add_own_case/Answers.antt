use Rattle.std.proofs.Common.{◌≡◌, ◌+◌, ◌-◌, take, drop, slice_get, ap, sym, ◌∙◌, arith}
use Rattle.kept_context.specs.Kept.{lists_at, line_seen}
use Rattle.kept_context.specs.Cased.{case_of}
use Rattle.kept_context.proofs.case.add_own_case.Goals as goal

pub returns-in-Cases-clause-noted : goal.returns-in-Cases-clause-noted
returns-in-Cases-clause-noted c facts told seen =
    let task = c.args.task.now in
    let values = c.args.values.now in
    let part : c.in-Cases.start + c.in-Cases.count - c.in-Cases.start ≡ c.in-Cases.count = omega arith in
    c.add_disjunct.ensures.noted facts told
    (ap (λ n. slice_get (lists_at (slice_get task.forms c.in-Cases.form) (take n (drop c.in-Cases.start values))) c.args.case) part
    ∙ ap (λ o. case_of (line_seen task values o) c.args.case) (sym c.in-Cases.is) ∙ seen)
