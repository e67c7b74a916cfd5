use Rattle.std.proofs.Common.{◌∙◌, ap}
use Rattle.std.proofs.lemmas.Result.{on_ok_weaker}
use Rattle.vernacular_tree.specs.declared.context.Line.TheVariants.{Facts}
use Rattle.isar_text.specs.declared.branch.Branch.{Branch}
use Rattle.isar_text.proofs.BranchKept.{case_kept, case_grows, case_low}
use Rattle.isar_text.proofs.branch.Branch.add_case.Goals as goal

pub push_line-requires-clause-low : goal.push_line-requires-clause-low
push_line-requires-clause-low c =
    case_low c.args.task.now c.args.self.now c.args.facts c.requires.kept c.requires.inside c.push.new.self c.in_ok-push.ensures.ok c.as_slice.result.now
    c.as_slice.ensures c.in_ok-number.number c.line_at-line.result.now c.line_at-line.ensures

pub returns-clause-kept : goal.returns-clause-kept
returns-clause-kept c =
    on_ok_weaker c.push_line.result
    (case_kept c.args.task.now c.args.self.now c.args.facts c.requires.kept c.requires.inside c.push.new.self c.in_ok-push.ensures.ok c.as_slice.result.now
    c.as_slice.ensures c.in_ok-number.number c.in_ok-number.ensures c.line_at-line.result.now c.line_at-line.ensures c.push_line.new.self)
    c.push_line.ensures

pub returns-clause-grows : goal.returns-clause-grows
returns-clause-grows c =
    on_ok_weaker c.push_line.result
    (case_grows c.args.task.now c.args.self.now c.args.facts c.requires.kept c.requires.inside c.push.new.self c.in_ok-push.ensures.ok c.as_slice.result.now
    c.as_slice.ensures c.in_ok-number.number c.in_ok-number.ensures c.line_at-line.result.now c.line_at-line.ensures c.push_line.new.self)
    c.push_line.ensures
