use Rattle.isar_text.proofs.BranchKept.{line_low, step_kept, step_grows}
use Rattle.isar_text.proofs.branch.Branch.take.Goals as goal

pub push_line-requires-clause-low : goal.push_line-requires-clause-low
push_line-requires-clause-low c =
    line_low c.args.task.now c.take_step.new.context c.in_ok-added.ensures.inside c.args.self.now.firsts.signed c.requires.kept.signed c.as_slice.result.now
    c.as_slice.ensures c.in_ok-number.number c.line_at-line.result.now c.line_at-line.ensures

pub returns-clause-kept : goal.returns-clause-kept
returns-clause-kept c =
    step_kept c.args.task.now c.args.self.now c.args.step.now c.requires.kept c.take_step.new.context c.in_ok-added.ensures.inside c.in_ok-added.ensures.after
    c.as_slice.result.now c.as_slice.ensures c.in_ok-number.number c.in_ok-number.ensures c.line_at-line.result.now c.line_at-line.ensures c.push_line.new.self
    c.in_ok-push_line.ensures

pub returns-clause-grows : goal.returns-clause-grows
returns-clause-grows c =
    step_grows c.args.task.now c.args.self.now c.args.step.now c.requires.kept c.take_step.new.context c.in_ok-added.ensures.inside c.in_ok-added.ensures.after
    c.as_slice.result.now c.as_slice.ensures c.in_ok-number.number c.in_ok-number.ensures c.line_at-line.result.now c.line_at-line.ensures c.push_line.new.self
    c.in_ok-push_line.ensures
