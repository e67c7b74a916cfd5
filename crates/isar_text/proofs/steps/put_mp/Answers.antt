use Rattle.std.proofs.lemmas.Result.{on_ok_weaker}
use Rattle.isar_text.proofs.StepsTold.{mp_put}
use Rattle.isar_text.proofs.steps.put_mp.Goals as goal

pub returns-clause-text : goal.returns-clause-text
returns-clause-text c =
    on_ok_weaker c.put_step.result
    (mp_put c.args.level c.args.task.now c.args.branch.now.context c.args.step.now c.in_ok-line.ensures.right c.requires.kept.inside c.requires.may
    c.in_ok-line.line c.in_ok-line.ensures.line c.args.out.now c.put_step.new.out)
    c.put_step.ensures
