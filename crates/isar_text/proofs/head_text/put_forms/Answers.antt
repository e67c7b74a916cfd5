use Rattle.std.proofs.Common.{◌++◌}
use Rattle.coherent_form.specs.Fitting.{FormFits}
use Rattle.isar_text.specs.Heads.{forms_text}
use Rattle.isar_text.proofs.HeadWritten.{next_form}
use Rattle.isar_text.proofs.StepsTold.{others_left}
use Rattle.isar_text.proofs.head_text.put_forms.Goals as goal

pub loop-number-preserved : goal.loop-number-preserved
loop-number-preserved c =
    let tables = c.args.task.now.tables in
    let forms = c.args.forms.now in
    let n = c.loop-number.number in
    let form = c.index-forms-number.result in record {
      text = next_form tables forms n form c.loop-number-test.true c.index-forms-number.is c.loop-number.out c.put_form_line.new.out
          (c.args.out.now ++ forms_text tables 0 forms) c.in_ok-put_form_line.ensures c.loop-number.invariant.text;
      others = others_left (FormFits tables) forms n form c.loop-number-test.true c.index-forms-number.is c.loop-number.invariant.others;
    }
