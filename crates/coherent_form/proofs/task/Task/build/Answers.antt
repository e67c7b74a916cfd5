use Rattle.std.proofs.Common.{◌+◌, Ok, Err, ap, subst}
use Rattle.text_core.specs.Exact.{Exact}
use Rattle.coherent_form.specs.Gathered.{progress_of}
use Rattle.coherent_form.specs.Tasks.{IsTaskFault, IsTaskOf}
use Rattle.coherent_form.proofs.Building.{progress_more, fofs_more, refusal_exact, task_exact}
use Rattle.coherent_form.proofs.OneTask.{want}
use Rattle.coherent_form.proofs.task.Task.build.Goals as goal

pub returns-in-Err : goal.returns-in-Err
returns-in-Err c =
    let at = c.loop-fof in
    subst (λ problem. Exact (IsTaskOf problem) (IsTaskFault problem) want (Err c.at.result)) c.as_slice-fof-items.ensures.formulas
    (refusal_exact c.as_slice-fof-items.result.now at.fof-index c.fof-item.result c.loop-fof-test.true c.fof-item.is (progress_of at.reading) at.invariant.progress at.invariant.taken
    (at.formula + 1) c.in-Err.why c.at.result (ap (λ n. n + 1) at.invariant.formula) c.at.ensures c.in-Err.ensures.err)

pub loop-fof-preserved : goal.loop-fof-preserved
loop-fof-preserved c =
    let at = c.loop-fof in
    let fofs = c.as_slice-fof-items.result.now in
    record {
      formula = ap (λ n. n + 1) at.invariant.formula;
      reading = c.in_default.ensures.reading;
      taken = fofs_more fofs at.fof-index c.fof-item.result c.loop-fof-test.true c.fof-item.is (progress_of at.reading) at.invariant.progress at.invariant.taken c.in_default.ensures.taken;
      progress = progress_more fofs at.fof-index c.fof-item.result c.loop-fof-test.true c.fof-item.is (progress_of at.reading) at.invariant.progress at.invariant.taken
          (progress_of c.take.new.self) c.in_default.ensures.progress;
    }

pub returns : goal.returns
returns c =
    let at = c.loop-fof in
    subst (λ problem. Exact (IsTaskOf problem) (IsTaskFault problem) want (Ok c.in_ok-finish.field-0)) c.as_slice-fof-items.ensures.formulas
    (task_exact c.as_slice-fof-items.result.now at.fof-index (progress_of at.reading) c.in_ok-finish.field-0 c.loop-fof-test.false at.invariant.taken at.invariant.progress c.in_ok-finish.ensures)
