use Rattle.std.proofs.Common.{refl}
use Rattle.larus_cli.specs.Done.{judged}
use Rattle.larus_cli.specs.Answers.{done}
use Rattle.larus_cli.proofs.judge.tell_proof.Goals as goal

pub returns-in-Size : goal.returns-in-Size
returns-in-Size c words files later problem second format script asks reads =
    rw c.size.ensures.value (done _ (judged _ format problem second _ c.args.task.now script c.args.proof.now (rw c.in-Size.is at asks) reads refl tt))

pub returns-in-Demo : goal.returns-in-Demo
returns-in-Demo c words files later problem second format script asks reads =
    rw c.size-in-Demo.ensures.value (done _ (judged _ format problem second _ c.args.task.now script c.args.proof.now (rw c.in-Demo.is at asks) reads refl tt))

pub returns-in_ok-text_for-in-Script : goal.returns-in_ok-text_for-in-Script
returns-in_ok-text_for-in-Script c words files later problem second format script asks reads =
    done _ (judged _ format problem second c.in_ok-text_for-in-Script.field-0 c.args.task.now script c.args.proof.now
    (rw c.in-Script.is at asks) reads c.in_ok-text_for-in-Script.ensures.text c.in_ok-text_for-in-Script.ensures.back)

pub returns-in_ok-isar_for-in-Isar : goal.returns-in_ok-isar_for-in-Isar
returns-in_ok-isar_for-in-Isar c words files later problem second format script asks reads =
    done _ (judged _ format problem second _ c.args.task.now script c.args.proof.now
    (rw c.in-Isar.is at asks) reads c.in_ok-isar_for-in-Isar.ensures.text c.in_ok-isar_for-in-Isar.ensures.back)

pub returns-in_ok-write_english-in-English : goal.returns-in_ok-write_english-in-English
returns-in_ok-write_english-in-English c words files later problem second format script asks reads =
    done _ (judged _ format problem second _ c.args.task.now script c.args.proof.now
    (rw c.in-English.is at asks) reads c.in_ok-write_english-in-English.ensures tt)
