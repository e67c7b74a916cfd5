use Rattle.std.proofs.Common.{◌≡◌, ◌+◌, ◌*◌, length, ap, ◌∙◌}
use Rattle.text_core.specs.Numbered.{Tables}
use Rattle.isar_text.specs.Firsts.{Firsts}
use Rattle.isar_text.proofs.BranchKept.{line_low, start_kept, signed_read}
use Rattle.isar_text.proofs.branch.Branch.new.Goals as goal

pub push_line-requires-clause-low : goal.push_line-requires-clause-low
push_line-requires-clause-low c =
    let task = c.args.task.now in
    let signed = signed_read task c.in_ok-firsts.firsts c.tables.result.now c.symbols.result c.tables.ensures c.symbols.ensures.count c.in_ok-firsts.ensures in
    line_low task c.in_ok-context.context c.in_ok-context.ensures.inside c.in_ok-firsts.firsts.signed signed c.as_slice.result.now c.as_slice.ensures 0
    c.line_at.result.now c.line_at.ensures

pub returns-clause-kept : goal.returns-clause-kept
returns-clause-kept c =
    let task = c.args.task.now in
    let signed = signed_read task c.in_ok-firsts.firsts c.tables.result.now c.symbols.result c.tables.ensures c.symbols.ensures.count c.in_ok-firsts.ensures in
    start_kept task c.forms-forms.ensures.right c.in_ok-context.context c.in_ok-context.ensures.inside c.in_ok-context.ensures.value c.in_ok-firsts.firsts
    c.symbols.result c.in_ok-firsts.ensures signed c.as_slice.result.now c.as_slice.ensures c.line_at.result.now c.line_at.ensures c.push_line.new.self
    c.in_ok-push_line.ensures
