use Rattle.std.proofs.Common.{◌-◌, length, sym, ◌∙◌}
use Rattle.kept_context.proofs.Lists.{item_read}
use Rattle.kept_context.proofs.Casing.{case_lent, case_own, case_none, none_some}
use Rattle.kept_context.proofs.case.add_case.Goals as goal

pub returns-then-line-lent-clause-noted : goal.returns-then-line-lent-clause-noted
returns-then-line-lent-clause-noted c facts told seen =
    let at = item_read c.args.lent.now c.args.line c.index-lent-line.result c.if-line-lent.true c.index-lent-line.is in
    c.add_lent_case.ensures.noted facts told
    (sym (case_lent c.args.task.now c.args.lent.now c.args.values.now c.args.own.now c.args.line c.args.case c.index-lent-line.result at) ∙ seen)

pub returns-in-Some-clause-noted : goal.returns-in-Some-clause-noted
returns-in-Some-clause-noted c facts told seen =
    let own = c.in-Some.own.now in
    let at = item_read c.args.own.now (c.args.line - length c.args.lent.now) own c.in-Some.ensures.lookup.3.0 c.in-Some.ensures.lookup.1 in
    c.add_own_case.ensures.noted facts told
    (sym (case_own c.args.task.now c.args.lent.now c.args.values.now c.args.own.now c.args.line c.args.case own c.if-line-lent.false at) ∙ seen)

pub returns-in_default-clause-noted : goal.returns-in_default-clause-noted
returns-in_default-clause-noted c facts told seen =
    none_some _ facts (case_none c.args.task.now c.args.lent.now c.args.values.now c.args.own.now c.args.line c.args.case c.if-line-lent.false c.in_default.ensures.lookup.3) seen
